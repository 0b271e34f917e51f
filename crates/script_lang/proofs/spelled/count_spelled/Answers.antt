use Rattle.std.proofs.Common.{◌∙◌}
use Rattle.script_lang.proofs.NumberLemmas.{parse-below}
use Rattle.script_lang.proofs.spelled.count_spelled.Goals as goal

pub returns-in-Some : goal.returns-in-Some
returns-in-Some c =
    let same = c.in-Some.ensures.0 in
    c.ok.ensures.value ∙ parse-below 64 c.args.word.now c.parse.result (rw same at c.parse.ensures.value.0) c.in-Some.ensures.1
