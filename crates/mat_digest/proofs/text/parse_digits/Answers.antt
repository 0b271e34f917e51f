use Rattle.std.proofs.Common.{◌∙◌}
use Rattle.mat_digest.proofs.Sizes.{IsUtf8-digits, parse-number_written}
use Rattle.mat_digest.proofs.text.parse_digits.Goals as goal

pub returns-in-Ok : goal.returns-in-Ok
returns-in-Ok c =
    let same = c.in-Ok.ensures.cases.0 in
    c.ok.ensures.value
    ∙ parse-number_written c.args.digits.now c.parse.result (rw same at c.parse.ensures.value.0) c.requires

pub returns-in-Err : goal.returns-in-Err
returns-in-Err c = absurd (c.in-Err.ensures.cases.0 (IsUtf8-digits c.args.digits.now c.requires))
