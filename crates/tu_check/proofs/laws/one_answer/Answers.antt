use Rattle.tu_check.proofs.Answering.{Known, accepted_once, refused_once, never_both}
use Rattle.tu_check.proofs.laws.one_answer.Goals as goal

pub returns : goal.returns
returns c =
    let known : Known = record { tokens = c.one_token_list.ensures; fault = c.one_fault.ensures; tree = c.one_tree.ensures; place = c.one_syntax_fault.ensures.place; no_tree = c.one_syntax_fault.ensures.no_tree } in
    record { accepted = accepted_once known; refused = refused_once known; apart = never_both known }
