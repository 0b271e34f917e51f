use Rattle.std.proofs.Common.{ap, ◌∙◌}
use Rattle.std.specs.Option.{is_some}
use Rattle.job_run.specs.Done.{task_path}
use Rattle.job_run.specs.Jobs.{goal_tree}
use Rattle.job_run.specs.States.{failure_of, region_of}
use Rattle.job_run.specs.Steps.{state_spot, told_now}
use Rattle.job_run.proofs.Counting.{counted_after, counts_moved, stands_lent, stands_moved, stays_after}
use Rattle.job_run.proofs.Moving.{stages_move}
use Rattle.job_run.proofs.Sealed.{asked_so, called_so}
use Rattle.std.proofs.Common.{◌≡◌, ◌⊎◌, None}
use Rattle.job_run.specs.CourseStages.{state_course, state_reading}
use Rattle.job_run.specs.Courses.{MissesLoan, Proceeds}
use Rattle.job_run.specs.Steps.{loan_call}
use Rattle.job_run.proofs.Proceeding.{both_moved, made_so}
use Rattle.job_run.proofs.machine.Machine.step.Goals as goal

pub advance-next-requires-clause-stands : goal.advance-next-requires-clause-stands
advance-next-requires-clause-stands g c =
    let j = c.args.self.now in (
      task_path j.card.task,
      goal_tree j.goal.value,
      stands_moved (task_path j.card.task) (goal_tree j.goal.value) (is_some j.loan) j.state c.replace-state.result c.replace-state.ensures.value c.requires.job.stands,
    )

pub returns-then-is_over-clause-job : goal.returns-then-is_over-clause-job
returns-then-is_over-clause-job g c =
    let j = c.args.self.now in
    let f = g.F.Fetcher in
    let taken = stands_moved (task_path j.card.task) (goal_tree j.goal.value) (is_some j.loan) j.state c.replace-state.result c.replace-state.ensures.value c.requires.job.stands in
    record {
      stands = stands_moved (task_path j.card.task) (goal_tree j.goal.value) (is_some c.advance-next.new.loan) c.advance-next.result c.settle_in.new.place c.settle_in.ensures
          (stands_lent (task_path j.card.task) (goal_tree j.goal.value) (is_some j.loan) (is_some c.advance-next.new.loan) c.advance-next.result c.advance-next.ensures.loan
          (c.advance-next.ensures.stands (task_path j.card.task) (goal_tree j.goal.value) taken));
      kind = c.requires.job.kind;
      counts = counts_moved c.advance-next.result c.settle_in.new.place c.advance-next.new.loan c.settle_in.ensures
          (counted_after (task_path j.card.task) (goal_tree j.goal.value) (is_some j.loan) c.replace-state.result c.advance-next.result j.loan c.advance-next.new.loan
          (told_now (f.holds c.args.fetcher.now) (f.fault_count c.args.fetcher.now) (f.fetches c.args.fetcher.now) (f.watch c.args.fetcher.now))
          (told_now (f.holds c.advance-next.new.fetcher) (f.fault_count c.advance-next.new.fetcher) (f.fetches c.advance-next.new.fetcher) (f.watch c.advance-next.new.fetcher))
          taken (λ spot. (c.advance-next.ensures.on_part spot).0) (λ spot. (c.advance-next.ensures.on_loan spot).1) (λ spot. (c.advance-next.ensures.on_store spot).2));
    }

pub returns-then-is_over-clause-on_part : goal.returns-then-is_over-clause-on_part
returns-then-is_over-clause-on_part g c = λ spot.
    let j = c.args.self.now in
    let all = c.advance-next.ensures.on_part (ap state_spot c.replace-state.ensures.value ∙ spot) in (
      called_so (task_path j.card.task) (goal_tree j.goal.value) (is_some j.loan) j.state c.replace-state.result c.advance-next.result c.settle_in.new.place
          c.replace-state.ensures.value c.settle_in.ensures c.requires.job.stands (c.advance-next.ensures.stands (task_path j.card.task) (goal_tree j.goal.value)) all.0,
      all.1,
      all.2,
    )

pub returns-then-is_over-clause-loan : goal.returns-then-is_over-clause-loan
returns-then-is_over-clause-loan g c =
    stays_after g.R.Region (state_spot c.replace-state.result) c.args.self.now.loan c.advance-next.new.loan (failure_of c.advance-next.result)
    (λ spot. (c.advance-next.ensures.on_part spot).1) (λ spot. (c.advance-next.ensures.on_loan spot).1) (λ spot. (c.advance-next.ensures.on_store spot).1)

pub returns-then-is_over-clause-on_store : goal.returns-then-is_over-clause-on_store
returns-then-is_over-clause-on_store g c = λ spot.
    let f = g.F.Fetcher in
    let all = c.advance-next.ensures.on_store (ap state_spot c.replace-state.ensures.value ∙ spot) in (
      ap region_of c.settle_in.ensures ∙ all.0 ∙ ap region_of c.replace-state.ensures.value,
      all.1,
      asked_so c.args.self.now.state c.replace-state.result c.advance-next.result c.settle_in.new.place
          (told_now (f.holds c.args.fetcher.now) (f.fault_count c.args.fetcher.now) (f.fetches c.args.fetcher.now) (f.watch c.args.fetcher.now))
          (told_now (f.holds c.advance-next.new.fetcher) (f.fault_count c.advance-next.new.fetcher) (f.fetches c.advance-next.new.fetcher) (f.watch c.advance-next.new.fetcher))
          c.replace-state.ensures.value c.settle_in.ensures spot all.2,
    )

pub returns-clause-job : goal.returns-clause-job
returns-clause-job g c =
    let j = c.args.self.now in
    let f = g.F.Fetcher in
    let taken = stands_moved (task_path j.card.task) (goal_tree j.goal.value) (is_some j.loan) j.state c.replace-state.result c.replace-state.ensures.value c.requires.job.stands in
    record {
      stands = stands_moved (task_path j.card.task) (goal_tree j.goal.value) (is_some c.advance-next.new.loan) c.advance-next.result c.settle_in.new.place c.settle_in.ensures
          (stands_lent (task_path j.card.task) (goal_tree j.goal.value) (is_some j.loan) (is_some c.advance-next.new.loan) c.advance-next.result c.advance-next.ensures.loan
          (c.advance-next.ensures.stands (task_path j.card.task) (goal_tree j.goal.value) taken));
      kind = c.requires.job.kind;
      counts = counts_moved c.advance-next.result c.settle_in.new.place c.advance-next.new.loan c.settle_in.ensures
          (counted_after (task_path j.card.task) (goal_tree j.goal.value) (is_some j.loan) c.replace-state.result c.advance-next.result j.loan c.advance-next.new.loan
          (told_now (f.holds c.args.fetcher.now) (f.fault_count c.args.fetcher.now) (f.fetches c.args.fetcher.now) (f.watch c.args.fetcher.now))
          (told_now (f.holds c.advance-next.new.fetcher) (f.fault_count c.advance-next.new.fetcher) (f.fetches c.advance-next.new.fetcher) (f.watch c.advance-next.new.fetcher))
          taken (λ spot. (c.advance-next.ensures.on_part spot).0) (λ spot. (c.advance-next.ensures.on_loan spot).1) (λ spot. (c.advance-next.ensures.on_store spot).2));
    }

pub returns-clause-on_part : goal.returns-clause-on_part
returns-clause-on_part g c = λ spot.
    let j = c.args.self.now in
    let all = c.advance-next.ensures.on_part (ap state_spot c.replace-state.ensures.value ∙ spot) in (
      called_so (task_path j.card.task) (goal_tree j.goal.value) (is_some j.loan) j.state c.replace-state.result c.advance-next.result c.settle_in.new.place
          c.replace-state.ensures.value c.settle_in.ensures c.requires.job.stands (c.advance-next.ensures.stands (task_path j.card.task) (goal_tree j.goal.value)) all.0,
      all.1,
      all.2,
    )

pub returns-clause-loan : goal.returns-clause-loan
returns-clause-loan g c =
    stays_after g.R.Region (state_spot c.replace-state.result) c.args.self.now.loan c.advance-next.new.loan (failure_of c.advance-next.result)
    (λ spot. (c.advance-next.ensures.on_part spot).1) (λ spot. (c.advance-next.ensures.on_loan spot).1) (λ spot. (c.advance-next.ensures.on_store spot).1)

pub returns-clause-on_store : goal.returns-clause-on_store
returns-clause-on_store g c = λ spot.
    let f = g.F.Fetcher in
    let all = c.advance-next.ensures.on_store (ap state_spot c.replace-state.ensures.value ∙ spot) in (
      ap region_of c.settle_in.ensures ∙ all.0 ∙ ap region_of c.replace-state.ensures.value,
      all.1,
      asked_so c.args.self.now.state c.replace-state.result c.advance-next.result c.settle_in.new.place
          (told_now (f.holds c.args.fetcher.now) (f.fault_count c.args.fetcher.now) (f.fetches c.args.fetcher.now) (f.watch c.args.fetcher.now))
          (told_now (f.holds c.advance-next.new.fetcher) (f.fault_count c.advance-next.new.fetcher) (f.fetches c.advance-next.new.fetcher) (f.watch c.advance-next.new.fetcher))
          c.replace-state.ensures.value c.settle_in.ensures spot all.2,
    )

pub returns-then-is_over-clause-moves : goal.returns-then-is_over-clause-moves
returns-then-is_over-clause-moves g c =
    let j = c.args.self.now in
    let f = g.F.Fetcher in
    let told = told_now (f.holds c.args.fetcher.now) (f.fault_count c.args.fetcher.now) (f.fetches c.args.fetcher.now) (f.watch c.args.fetcher.now) in
    let now = told_now (f.holds c.advance-next.new.fetcher) (f.fault_count c.advance-next.new.fetcher) (f.fetches c.advance-next.new.fetcher) (f.watch c.advance-next.new.fetcher) in
    let done = c.advance-next.ensures in
    (stages_move (task_path j.card.task) (is_some j.loan) j.card (goal_tree j.goal.value) j.loan c.advance-next.new.loan j.state c.replace-state.result c.advance-next.result
    c.settle_in.new.place told now c.replace-state.ensures.value c.settle_in.ensures c.requires.job.stands (done.stands (task_path j.card.task) (goal_tree j.goal.value))
    (λ spot. let all = done.on_part spot in (all.0, all.1, ap (λ x. told_now (f.holds x) (f.fault_count x) (f.fetches x) (f.watch x)) all.2))
    (λ spot. let all = done.on_loan spot in (all.0, all.1, ap (λ x. told_now (f.holds x) (f.fault_count x) (f.fetches x) (f.watch x)) all.2))
    done.on_store done.holds done.asks done.from).0

pub returns-then-is_over-clause-causes : goal.returns-then-is_over-clause-causes
returns-then-is_over-clause-causes g c =
    let j = c.args.self.now in
    let f = g.F.Fetcher in
    let told = told_now (f.holds c.args.fetcher.now) (f.fault_count c.args.fetcher.now) (f.fetches c.args.fetcher.now) (f.watch c.args.fetcher.now) in
    let now = told_now (f.holds c.advance-next.new.fetcher) (f.fault_count c.advance-next.new.fetcher) (f.fetches c.advance-next.new.fetcher) (f.watch c.advance-next.new.fetcher) in
    let done = c.advance-next.ensures in
    (stages_move (task_path j.card.task) (is_some j.loan) j.card (goal_tree j.goal.value) j.loan c.advance-next.new.loan j.state c.replace-state.result c.advance-next.result
    c.settle_in.new.place told now c.replace-state.ensures.value c.settle_in.ensures c.requires.job.stands (done.stands (task_path j.card.task) (goal_tree j.goal.value))
    (λ spot. let all = done.on_part spot in (all.0, all.1, ap (λ x. told_now (f.holds x) (f.fault_count x) (f.fetches x) (f.watch x)) all.2))
    (λ spot. let all = done.on_loan spot in (all.0, all.1, ap (λ x. told_now (f.holds x) (f.fault_count x) (f.fetches x) (f.watch x)) all.2))
    done.on_store done.holds done.asks done.from).1

pub returns-clause-moves : goal.returns-clause-moves
returns-clause-moves g c =
    let j = c.args.self.now in
    let f = g.F.Fetcher in
    let told = told_now (f.holds c.args.fetcher.now) (f.fault_count c.args.fetcher.now) (f.fetches c.args.fetcher.now) (f.watch c.args.fetcher.now) in
    let now = told_now (f.holds c.advance-next.new.fetcher) (f.fault_count c.advance-next.new.fetcher) (f.fetches c.advance-next.new.fetcher) (f.watch c.advance-next.new.fetcher) in
    let done = c.advance-next.ensures in
    (stages_move (task_path j.card.task) (is_some j.loan) j.card (goal_tree j.goal.value) j.loan c.advance-next.new.loan j.state c.replace-state.result c.advance-next.result
    c.settle_in.new.place told now c.replace-state.ensures.value c.settle_in.ensures c.requires.job.stands (done.stands (task_path j.card.task) (goal_tree j.goal.value))
    (λ spot. let all = done.on_part spot in (all.0, all.1, ap (λ x. told_now (f.holds x) (f.fault_count x) (f.fetches x) (f.watch x)) all.2))
    (λ spot. let all = done.on_loan spot in (all.0, all.1, ap (λ x. told_now (f.holds x) (f.fault_count x) (f.fetches x) (f.watch x)) all.2))
    done.on_store done.holds done.asks done.from).0

pub returns-clause-causes : goal.returns-clause-causes
returns-clause-causes g c =
    let j = c.args.self.now in
    let f = g.F.Fetcher in
    let told = told_now (f.holds c.args.fetcher.now) (f.fault_count c.args.fetcher.now) (f.fetches c.args.fetcher.now) (f.watch c.args.fetcher.now) in
    let now = told_now (f.holds c.advance-next.new.fetcher) (f.fault_count c.advance-next.new.fetcher) (f.fetches c.advance-next.new.fetcher) (f.watch c.advance-next.new.fetcher) in
    let done = c.advance-next.ensures in
    (stages_move (task_path j.card.task) (is_some j.loan) j.card (goal_tree j.goal.value) j.loan c.advance-next.new.loan j.state c.replace-state.result c.advance-next.result
    c.settle_in.new.place told now c.replace-state.ensures.value c.settle_in.ensures c.requires.job.stands (done.stands (task_path j.card.task) (goal_tree j.goal.value))
    (λ spot. let all = done.on_part spot in (all.0, all.1, ap (λ x. told_now (f.holds x) (f.fault_count x) (f.fetches x) (f.watch x)) all.2))
    (λ spot. let all = done.on_loan spot in (all.0, all.1, ap (λ x. told_now (f.holds x) (f.fault_count x) (f.fetches x) (f.watch x)) all.2))
    done.on_store done.holds done.asks done.from).1

pub returns-then-is_over-clause-course : goal.returns-then-is_over-clause-course
returns-then-is_over-clause-course g c =
    both_moved {g = g.R.Region} (λ a b. failure_of b ≡ None → Proceeds (state_spot a) (state_spot b) (state_course a) (state_course b)) c.args.self.now.state c.replace-state.result
    c.advance-next.result c.settle_in.new.place c.replace-state.ensures.value c.settle_in.ensures c.advance-next.ensures.course

pub returns-then-is_over-clause-makes : goal.returns-then-is_over-clause-makes
returns-then-is_over-clause-makes g c =
    let j = c.args.self.now in
    made_so (task_path j.card.task) (goal_tree j.goal.value) (is_some j.loan) j.state c.replace-state.result c.advance-next.result c.settle_in.new.place c.replace-state.ensures.value
    c.settle_in.ensures c.requires.job.stands (c.advance-next.ensures.stands (task_path j.card.task) (goal_tree j.goal.value)) c.advance-next.ensures.makes

pub returns-then-is_over-clause-lent : goal.returns-then-is_over-clause-lent
returns-then-is_over-clause-lent g c =
    let r = g.R.Region in
    let j = c.args.self.now in
    both_moved {g = r} (λ a b. state_spot a ≡ loan_call → failure_of b ≡ None → ((state_course b).from ≡ (state_course a).from) ⊎ MissesLoan r j.loan (state_course a) (state_reading a))
    j.state c.replace-state.result c.advance-next.result c.settle_in.new.place c.replace-state.ensures.value c.settle_in.ensures c.advance-next.ensures.lent

pub returns-clause-course : goal.returns-clause-course
returns-clause-course g c =
    both_moved {g = g.R.Region} (λ a b. failure_of b ≡ None → Proceeds (state_spot a) (state_spot b) (state_course a) (state_course b)) c.args.self.now.state c.replace-state.result
    c.advance-next.result c.settle_in.new.place c.replace-state.ensures.value c.settle_in.ensures c.advance-next.ensures.course

pub returns-clause-makes : goal.returns-clause-makes
returns-clause-makes g c =
    let j = c.args.self.now in
    made_so (task_path j.card.task) (goal_tree j.goal.value) (is_some j.loan) j.state c.replace-state.result c.advance-next.result c.settle_in.new.place c.replace-state.ensures.value
    c.settle_in.ensures c.requires.job.stands (c.advance-next.ensures.stands (task_path j.card.task) (goal_tree j.goal.value)) c.advance-next.ensures.makes

pub returns-clause-lent : goal.returns-clause-lent
returns-clause-lent g c =
    let r = g.R.Region in
    let j = c.args.self.now in
    both_moved {g = r} (λ a b. state_spot a ≡ loan_call → failure_of b ≡ None → ((state_course b).from ≡ (state_course a).from) ⊎ MissesLoan r j.loan (state_course a) (state_reading a))
    j.state c.replace-state.result c.advance-next.result c.settle_in.new.place c.replace-state.ensures.value c.settle_in.ensures c.advance-next.ensures.lent
