-- The rules of a work state but for its claims, where a job begins, a job is dropped, and a task has made its row or failed.
use Rattle.std.proofs.Common.{◌≡◌, ℕ, ◌+◌, Bool, true, false, ◌⊎◌, inl, inr, List, [], ◌∷◌, ◌++◌, Option, Some, None, cond, refl, sym, ap, subst, ◌∙◌, map, Contains, arith}
use Rattle.std.specs.List.{filter, list_any}
use Rattle.std.proofs.lemmas.Bool.{false_from_ne_true}
use Rattle.std.proofs.lemmas.List.Elements.{Contains-append_cases}
use Rattle.mat_path.proofs.Elements.{contains_cases, contains_map, filtered_contains, mapped_contains}
use Rattle.mat_path.proofs.SameNames.{same_names-eq}
use Rattle.mat_model.specs.declared.book.Row.{Row}
use Rattle.mat_model.specs.declared.entries.Task.{Task}
use Rattle.mat_model.specs.declared.entries.Task.TheVariants as task
use Rattle.mat_model.specs.Rows.{is_at_path, standing_row}
use Rattle.mat_model.specs.WorkState.{Job, Lent, lies_at}
use Rattle.model_laws.specs.WorkRules.{IsJob, IsLentBy, IsMaking}
use Rattle.model_laws.proofs.Changes.{standing-path, standing-stamp, standing-tree}
use Rattle.model_laws.proofs.WorkBase.{Base, HasLying, ascending_filter, ascending_push, job_grows, job_later, lying_any, lying_row}

-- debris is other than it was, but what is wiped of it is still there
pub debris_base : (next : ℕ) (rows : List Row) (jobs : List Job) (dirty : List (List (List ℕ))) (debris more : List (List (List ℕ))) →
    Base next rows jobs dirty debris →
    ((job : Job) → Contains jobs job → (path : List (List ℕ)) → job.task ≡ task.Wipe path → Contains debris path → Contains more path) →
    Base next rows jobs dirty more
debris_base next rows jobs dirty debris more base grows = record {
  numbers = base.numbers;
  each = λ job among. job_grows next rows debris more job (grows job among) (base.each job among);
  wipes = base.wipes;
  lying = base.lying;
}

-- the next number is greater
pub later_base : (next : ℕ) (rows : List Row) (jobs : List Job) (dirty : List (List (List ℕ))) (debris : List (List (List ℕ))) →
    Base next rows jobs dirty debris → Base (next + 1) rows jobs dirty debris
later_base next rows jobs dirty debris base = record {
  numbers = base.numbers;
  each = λ job among. job_later next rows debris job (base.each job among);
  wipes = base.wipes;
  lying = base.lying;
}

-- some jobs are dropped
pub drop_base : (next : ℕ) (rows : List Row) (jobs : List Job) (dirty : List (List (List ℕ))) (debris : List (List (List ℕ))) (test : Job → Bool) →
    Base next rows jobs dirty debris → Base next rows (filter test jobs) dirty debris
drop_base next rows jobs dirty debris test base = record {
  numbers = ascending_filter test jobs base.numbers;
  each = λ job among. base.each job (filtered_contains test jobs job among).0;
  wipes = λ job other among also. base.wipes job other (filtered_contains test jobs job among).0 (filtered_contains test jobs other also).0;
  lying = base.lying;
}

-- a job begins that keeps its rules, under the next number, and wipes nothing that another one wipes; some marks go
pub push_base : (next : ℕ) (rows : List Row) (jobs : List Job) (dirty marks : List (List (List ℕ))) (debris : List (List (List ℕ))) (job : Job) →
    Base next rows jobs dirty debris → job.number ≡ next → IsJob (next + 1) rows debris job →
    ((other : Job) → Contains jobs other → (path : List (List ℕ)) → job.task ≡ task.Wipe path → other.task ≡ task.Wipe path → ⊥) →
    ((path : List (List ℕ)) → Contains marks path → Contains dirty path) → Base (next + 1) rows (jobs ++ job ∷ []) marks debris
push_base next rows jobs dirty marks debris job base number rules alone fewer =
    let later = later_base next rows jobs dirty debris base in record {
      numbers = ascending_push jobs job base.numbers
          (λ other among. let less = (base.each other among).numbered in let is = number in omega (arith, less, is));
      each = λ other among. elim (cases other among) [ inl before ↦ later.each other before | inr same ↦ subst (IsJob (next + 1) rows debris) same rules ];
      wipes = λ one other among also path wipes too.
          elim (cases one among) [
            | inl before ↦ elim (cases other also) [
              | inl earlier ↦ base.wipes one other before earlier path wipes too
              | inr same ↦ absurd (alone one before path (ap (λ (j : Job). j.task) same ∙ too) wipes)
            ]
            | inr same ↦ elim (cases other also) [
              | inl earlier ↦ absurd (alone other earlier path (ap (λ (j : Job). j.task) same ∙ wipes) too)
              | inr equal ↦ sym same ∙ equal
            ]
          ];
      lying = λ path among. base.lying path (fewer path among);
    }
  where
    cases : (other : Job) → Contains (jobs ++ job ∷ []) other → Contains jobs other ⊎ (job ≡ other)
    cases other among =
        elim (Contains-append_cases jobs (job ∷ []) other among) [
          | inl before ↦ inl before
          | inr last ↦ elim (contains_cases job [] other last) [ inl same ↦ inr same | inr (k, within, at) ↦ absurd (omega arith) ]
        ]

-- ---- a row comes to stand

-- a row that isn't at the path is what it was
other_stands : (path : List (List ℕ)) (row : Row) → is_at_path path row ≡ false → (standing_row path row).stands ≡ row.stands
other_stands path row off = ap (λ (b : Bool). (cond b (record row { stands = true }) row).stands) off

still_stands : (path : List (List ℕ)) (row : Row) → row.stands ≡ true → (standing_row path row).stands ≡ true
still_stands path row stands =
    elim (is_at_path path row) as (λ b. (cond b (record row { stands = true }) row).stands ≡ true) [ true ↦ refl | false ↦ stands ]

off_path : (path : List (List ℕ)) (row : Row) → (row.path ≡ path → ⊥) → is_at_path path row ≡ false
off_path path row other = false_from_ne_true (is_at_path path row) (λ at. other (same_names-eq row.path path at))

made_making : (path : List (List ℕ)) (rows : List Row) (t : Task) → ((other : List (List ℕ)) (stamp : ℕ) → t ≡ task.Make other stamp → other ≡ path → ⊥) →
    IsMaking rows t → IsMaking (map (standing_row path) rows) t
made_making path rows (task.Make other stamp) apart making = λ row among is.
    let (old, within, same) = mapped_contains (standing_row path) rows row among in
    let parts = making old within (sym (standing-stamp path old) ∙ ap (λ (r : Row). r.stamp) same ∙ is) in
    let off : is_at_path path old ≡ false = off_path path old (λ at. apart other stamp refl (sym parts.0 ∙ at)) in (
      sym (ap (λ (r : Row). r.path) same) ∙ standing-path path old ∙ parts.0,
      sym (ap (λ (r : Row). r.stands) same) ∙ other_stands path old off ∙ parts.1,
    )
made_making path rows (task.Wipe other) apart making = tt

pub made_lent : (path : List (List ℕ)) (rows : List Row) (o : Option Lent) → IsLentBy rows o → IsLentBy (map (standing_row path) rows) o
made_lent path rows None lent = tt
made_lent path rows (Some part) lent = λ row among is.
    let (old, within, same) = mapped_contains (standing_row path) rows row among in
    let from = lent old within (sym (standing-stamp path old) ∙ ap (λ (r : Row). r.stamp) same ∙ is) in record {
      path = sym (ap (λ (r : Row). r.path) same) ∙ standing-path path old ∙ from.path;
      stands = sym (ap (λ (r : Row). r.stands) same) ∙ still_stands path old from.stands;
      tree = sym (ap (λ (r : Row). r.tree) same) ∙ standing-tree path old ∙ from.tree;
    }

-- the rows of which one comes to stand that no other make is for, and that isn't dirty
pub made_base : (next : ℕ) (rows : List Row) (jobs : List Job) (dirty : List (List (List ℕ))) (debris : List (List (List ℕ))) (path : List (List ℕ)) →
    Base next rows jobs dirty debris →
    ((job : Job) → Contains jobs job → (other : List (List ℕ)) (stamp : ℕ) → job.task ≡ task.Make other stamp → other ≡ path → ⊥) →
    ((other : List (List ℕ)) → Contains dirty other → other ≡ path → ⊥) → Base next (map (standing_row path) rows) jobs dirty debris
made_base next rows jobs dirty debris path base alone clean = record {
  numbers = base.numbers;
  each = λ job among.
      let rules = base.each job among in record {
        numbered = rules.numbered;
        making_below = rules.making_below;
        lent_below = rules.lent_below;
        wiping = rules.wiping;
        making = made_making path rows job.task (alone job among) rules.making;
        lent = made_lent path rows job.lent rules.lent;
      };
  wipes = base.wipes;
  lying = λ other among.
      let (row, within, at, lies) = lying_row rows other (base.lying other among) in
      lying_any (map (standing_row path) rows) other (
        standing_row path row,
        contains_map (standing_row path) rows row within,
        standing-path path row ∙ at,
        other_stands path row (off_path path row (λ there. clean other among (sym at ∙ there))) ∙ lies,
      );
}

-- a path is dirty at which a row lies
pub failed_base : (next : ℕ) (rows : List Row) (jobs : List Job) (dirty : List (List (List ℕ))) (debris : List (List (List ℕ))) (path : List (List ℕ)) →
    Base next rows jobs dirty debris → HasLying rows path → Base next rows jobs (path ∷ dirty) debris
failed_base next rows jobs dirty debris path base lying = record {
  numbers = base.numbers;
  each = base.each;
  wipes = base.wipes;
  lying = λ other among.
      elim (contains_cases path dirty other among) [
        | inl same ↦ subst (λ (p : List (List ℕ)). list_any (lies_at p) rows ≡ true) same (lying_any rows path lying)
        | inr before ↦ base.lying other before
      ];
}
