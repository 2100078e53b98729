-- Copies that are put off, the last of which comes first.
use Rattle.std.proofs.Common.{◌≡◌, ℕ, List, [], ◌∷◌, ◌++◌, Bool, true, ap, sym, ◌∙◌, append_assoc, append-nil}
use Rattle.std.proofs.lemmas.List.{map-append}
use Rattle.rv_isa.specs.Encoding.{encoding}
use Rattle.rv_runs.specs.Stands.{codes_of}
use Rattle.rv_layout.specs.Moves.{copy_words}
use Rattle.rv_emit.specs.declared.handing.PutOff.{PutOff}
use Rattle.rv_emit.specs.Mixed.{put_off}

pub put_off_last : (near : Bool) (cs : List PutOff) (c : PutOff) → put_off near (cs ++ c ∷ []) ≡ copy_words near true c.to c.from ++ put_off near cs
put_off_last near [] c = sym (append-nil (copy_words near true c.to c.from))
put_off_last near (d ∷ cs) c = ap (λ ops. ops ++ copy_words near true d.to d.from) (put_off_last near cs c) ∙ append_assoc (copy_words near true c.to c.from) (put_off near cs) (copy_words near true d.to d.from)

-- the last one is done
pub put_off_done : (near : Bool) (before after : List PutOff) (c : PutOff) (out more start whole : List ℕ) → before ≡ after ++ c ∷ []
    → out ++ codes_of (put_off near before) ≡ start ++ whole → more ≡ out ++ codes_of (copy_words near true c.to c.from) → more ++ codes_of (put_off near after) ≡ start ++ whole
put_off_done near before after c out more start whole e w m =
    ap (λ xs. xs ++ codes_of (put_off near after)) m
    ∙ (append_assoc out (codes_of (copy_words near true c.to c.from)) (codes_of (put_off near after))
    ∙ (ap (λ xs. out ++ xs) (sym (ap codes_of (ap (put_off near) e ∙ put_off_last near after c) ∙ map-append encoding (copy_words near true c.to c.from) (put_off near after))) ∙ w))
