use Rattle.std.proofs.Common.{rules, ◌∙◌, ap, false, Some, None}
use Rattle.std.specs.Option.{option_map_or}
use Rattle.std.specs.declared.option.Option.{Option}
use Rattle.job_book.specs.declared.running.Running.{Running}
use Rattle.job_book.specs.Numbers.{reads}
use Rattle.job_book.proofs.ReadLemmas.{reading_found}
use Rattle.job_book.proofs.book.JobBook.is_reading.Goals as goal

pub returns-in-Some-get : goal.returns-in-Some-get
returns-in-Some-get c =
    c.reads.ensures
    ∙ ap (λ (o : Option Running). option_map_or (reads c.args.path.now c.args.stamp) o false) c.in-Some-get.ensures.running
    ∙ reading_found c.args.path.now c.args.stamp c.args.self.now c.self.inside.loans (Some c.in-Some.number.now) (search rules) c.in-Some.ensures

pub returns-in-None-get : goal.returns-in-None-get
returns-in-None-get c =
    ap (λ (o : Option Running). option_map_or (reads c.args.path.now c.args.stamp) o false) c.in-None-get.ensures.running
    ∙ reading_found c.args.path.now c.args.stamp c.args.self.now c.self.inside.loans (Some c.in-Some.number.now) (search rules) c.in-Some.ensures

pub returns-in-None : goal.returns-in-None
returns-in-None c = reading_found c.args.path.now c.args.stamp c.args.self.now c.self.inside.loans None (search rules) c.in-None.ensures
