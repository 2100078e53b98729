-- How programs are stored, which tells a proof that different ones are not equal.
use Rattle.std.specs.Prelude.{◌≡◌, ℕ, Bool, List, Option, refl}
use Rattle.std.proofs.Common.{ap, arith}
use Rattle.std.specs.Coded.{Coded, code_by, coded_bool, coded_list, coded_option, coded_ℕ, coded×}
use base.Stored.{Gv, gnil, gnum, gcons}
use Rattle.tu_base.specs.contracts.shape.Shape as shape_type
use Rattle.tu_core.specs.contracts.names.At as at_type
use Rattle.tu_core.specs.contracts.names.CallResult as call_result_type
use Rattle.tu_core.specs.contracts.names.Formal as formal_type
use Rattle.tu_core.specs.contracts.names.GlobalName as global_name_type
use Rattle.tu_core.specs.contracts.names.LocalName as local_name_type
use Rattle.tu_core.specs.contracts.names.Variable as variable_type
use Rattle.tu_core.specs.declared.names.CallResult.{CallResult}
use Rattle.tu_core.specs.declared.names.Formal.{Formal}
use Rattle.tu_core.specs.declared.names.GlobalName.{GlobalName}
use Rattle.tu_core.specs.declared.names.LocalName.{LocalName}
use Rattle.tu_base.specs.declared.shape.Shape.{Shape}
use Rattle.tu_core.specs.declared.names.Variable.{Variable}
use Rattle.tu_core.specs.Core.{Handler, NoHandler, Handles, Routine, Program, Block}
use Rattle.tu_core_expressions.specs.Stored.{head, tail, tags}
use Rattle.tu_core_types.specs.StatementCodes.{coded_block}

abbrev pub handler_code : Handler → Gv
handler_code NoHandler = gcons (gnum 0) gnil
handler_code (Handles a0 a1 a2) = gcons (gnum 1) (gcons (at_type.the_row.coded.code a0) (gcons (coded_ℕ.code a1) (gcons (coded_block.code a2) gnil)))

pub handler_inj : (x y : Handler) → handler_code x ≡ handler_code y → x ≡ y
handler_inj NoHandler NoHandler p = refl
handler_inj NoHandler other p = absurd (omega (arith, tags p))
handler_inj (Handles a0 a1 a2) (Handles b0 b1 b2) p = λ i. Handles (at_type.the_row.coded.inj a0 b0 (ap (λ g. head (tail g)) p) i) (coded_ℕ.inj a1 b1 (ap (λ g. head (tail (tail g))) p) i) (coded_block.inj a2 b2 (ap (λ g. head (tail (tail (tail g)))) p) i)
handler_inj (Handles a0 a1 a2) other p = absurd (omega (arith, tags p))

abbrev pub coded_handler : Coded Handler
coded_handler = record { code = handler_code; inj = handler_inj }

-- a record as its fields
abbrev pub coded_routine : Coded Routine
coded_routine =
    code_by (CallResult × (Bool × (Option ℕ × (List Formal × (ℕ × (List LocalName × (Block × (Block × (Handler × (Block × (ℕ × (List Variable × List ℕ)))))))))))) (coded× call_result_type.the_row.coded (coded× coded_bool (coded× (coded_option coded_ℕ) (coded× (coded_list formal_type.the_row.coded) (coded× coded_ℕ (coded× (coded_list local_name_type.the_row.coded) (coded× coded_block (coded× coded_block (coded× coded_handler (coded× coded_block (coded× coded_ℕ (coded× (coded_list variable_type.the_row.coded) (coded_list coded_ℕ)))))))))))))
    (λ r. (r.gives, (r.is_invariant, (r.result, (r.formals, (r.stars, (r.locals, (r.before, (r.body, (r.handler, (r.after, (r.end_line, (r.fixed, r.fixed_collections))))))))))))) (λ p. record { gives = p.0; is_invariant = p.1.0; result = p.1.1.0; formals = p.1.1.1.0; stars = p.1.1.1.1.0; locals = p.1.1.1.1.1.0; before = p.1.1.1.1.1.1.0; body = p.1.1.1.1.1.1.1.0; handler = p.1.1.1.1.1.1.1.1.0; after = p.1.1.1.1.1.1.1.1.1.0; end_line = p.1.1.1.1.1.1.1.1.1.1.0; fixed = p.1.1.1.1.1.1.1.1.1.1.1.0; fixed_collections = p.1.1.1.1.1.1.1.1.1.1.1.1 }) (λ _. refl)

-- a record as its fields
abbrev pub coded_program : Coded Program
coded_program =
    code_by (List Shape × (List GlobalName × (List ℕ × (List Routine × (List LocalName × Block))))) (coded× (coded_list shape_type.the_row.coded) (coded× (coded_list global_name_type.the_row.coded) (coded× (coded_list coded_ℕ) (coded× (coded_list coded_routine) (coded× (coded_list local_name_type.the_row.coded) coded_block)))))
    (λ r. (r.shapes, (r.globals, (r.collections, (r.routines, (r.locals, r.main)))))) (λ p. record { shapes = p.0; globals = p.1.0; collections = p.1.1.0; routines = p.1.1.1.0; locals = p.1.1.1.1.0; main = p.1.1.1.1.1 }) (λ _. refl)
