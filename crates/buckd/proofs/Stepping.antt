-- Where a run is after a make, and after some.
use Rattle.std.proofs.Common.{◌≡◌, ℕ, zero, suc, ◌+◌, List, [], ◌∷◌, ◌++◌, length, Option, Some, None, refl, ap, ap₂, ◌∙◌, arith, add-one}
use Rattle.std.proofs.lemmas.List.{length_push}
use Rattle.mat_model.specs.declared.answers.Recorded.TheVariants as recorded
use Rattle.mat_model.specs.declared.answers.Reply.TheVariants as reply
use Rattle.mat_model.specs.declared.entries.Entry.{Entry}
use Rattle.mat_model.specs.declared.entries.Event.TheVariants as event
use Rattle.mat_model.specs.declared.entries.Outcome.{Outcome}
use Rattle.mat_model.specs.declared.entries.Task.{Task}
use Rattle.mat_model.specs.Gate.{Served}
use Rattle.mat_model.specs.Work.{finish}
use Rattle.mat_model.specs.WorkState.{first_task}
use Rattle.buckd.specs.Run.{Point, Scene, entry_at, idle, made, made_if, make_first, makes, next, worked}

-- the history after a make's begin
abbrev pub begun : List Entry → Task → List Entry
begun history task = history ++ entry_at (length history) (event.Begin task) reply.Started ∷ []

-- where a run is after a make of a job that was served so, whose end has a number
abbrev pub worked_so : List Entry → Task → Outcome → ℕ → ℕ → Served → Point
worked_so history task ends job number served = record {
  book = served.book;
  history = begun history task ++ entry_at number (event.Done job ends) served.reply ∷ [];
}

-- a make begins and ends with the next two numbers of a history that begins with 0
pub worked-is : (task : Task) (ends : Outcome) (point : Point) → point.book.first ≡ 0 →
    worked task ends point ≡ worked_so point.history task ends (length point.history) (length point.history + 1)
    (finish (length point.history + 1) task ends recorded.Nothing point.book)
worked-is task ends point first =
    let job : next point ≡ length point.history = omega (arith, first) in
    let count : length (begun point.history task) ≡ length point.history + 1 =
    length_push point.history (entry_at (length point.history) (event.Begin task) reply.Started) in
    let number : point.book.first + length (begun point.history task) ≡ length point.history + 1 = omega (arith, first, count) in
    ap₂ (λ (k n : ℕ). worked_so point.history task ends k n
    (finish (point.book.first + length (begun point.history task)) task ends recorded.Nothing point.book)) job count
    ∙ ap (λ (n : ℕ). worked_so point.history task ends (length point.history) (length point.history + 1)
    (finish n task ends recorded.Nothing point.book)) number

-- the first make, where there is one
pub make_first-some : (scene : Scene) (task : Task) → first_task idle scene.point.book ≡ Some task →
    make_first scene ≡ made task scene
make_first-some scene task is = ap (λ (o : Option Task). made_if scene o) is

-- and where there is none
pub make_first-none : (scene : Scene) → first_task idle scene.point.book ≡ None → make_first scene ≡ scene
make_first-none scene none = ap (λ (o : Option Task). made_if scene o) none

-- some makes change nothing where there is none to make
pub makes-none : (count : ℕ) (scene : Scene) → first_task idle scene.point.book ≡ None → makes count scene ≡ scene
makes-none zero scene none = refl
makes-none (suc count) scene none =
    ap (λ (s : Scene). makes count s) (make_first-none scene none) ∙ makes-none count scene none

-- one more make comes before the others
pub makes-suc : (count : ℕ) (scene : Scene) → makes (count + 1) scene ≡ makes count (make_first scene)
makes-suc count scene = ap (λ (n : ℕ). makes n scene) (add-one count)
