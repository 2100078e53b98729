use Rattle.tu_agree.proofs.laws.run_is_meant.Goals as goal

pub returns : goal.returns
returns c = λ meaning image agrees input folder n over. (agrees input folder n).same_end over
