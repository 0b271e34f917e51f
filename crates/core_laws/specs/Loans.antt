-- The loans of a disk: they are those of the jobs, they are apart, and the disk has nothing where one is.
use Rattle.std.specs.Prelude.{◌≡◌, ℕ, false, List, [], ◌∷◌, filter}
use Rattle.std.specs.List.{Contains}
use Rattle.mat_path.specs.Covering.{is_other_path}
use Rattle.mat_path.specs.Names.{overlap, same_names}
use Rattle.mat_tree.specs.Parts.{Part}
use Rattle.mat_model.specs.WorkState.{Job}
use Rattle.model_laws.specs.WorkRules.{loans}
use Rattle.region_port.specs.Calls.{Paths}
use Rattle.core_laws.specs.Places.{IsBareBelow}

-- each loan of a job is lent by the disk, and each path that the disk lends is a loan of a job
pub record AreLoans (jobs : List Job) (lent : List (List (List ℕ))) : Type 0 where
  pub out : (loan : List (List ℕ)) → Contains (loans jobs) loan → Contains lent loan
  pub ours : (loan : List (List ℕ)) → Contains lent loan → Contains (loans jobs) loan

-- no two of some loans overlap
abbrev pub AreLoansApart : List (List (List ℕ)) → Type 0
AreLoansApart lent = (loan other : List (List ℕ)) → Contains lent loan → Contains lent other → same_names loan other ≡ false →
    overlap loan other ≡ false

-- the disk has no node and no rough path at or below a loan
abbrev pub AreOut : List (List (List ℕ)) → Part → Paths → Type 0
AreOut lent content rough = (loan : List (List ℕ)) → Contains lent loan → IsBareBelow loan content rough

-- the loans that are left where some are given back
abbrev pub given_back : List (List (List ℕ)) → List (List (List ℕ)) → List (List (List ℕ))
given_back [] lent = lent
given_back (loan ∷ others) lent = given_back others (filter (is_other_path loan) lent)
