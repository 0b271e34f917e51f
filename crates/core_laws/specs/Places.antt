-- What a disk has at and below a path, said place by place: nothing, what it had before, or a part that came back.
use Rattle.std.specs.Prelude.{◌≡◌, ◌++◌, ℕ, true, false, List, None}
use Rattle.mat_path.specs.Names.{is_prefix}
use Rattle.mat_tree.specs.Parts.{Part}
use Rattle.region_port.specs.Calls.{Paths}

-- no node and no rough path is at or below a path
pub record IsBareBelow (place : List (List ℕ)) (content : Part) (rough : Paths) : Type 0 where
  pub node : (path : List (List ℕ)) → is_prefix place path ≡ true → content path ≡ None
  pub settled : (path : List (List ℕ)) → is_prefix place path ≡ true → rough path ≡ false

-- at and below a path stands what stood there, and as rough
pub record IsSameBelow (place : List (List ℕ)) (old : Part) (before : Paths) (new : Part) (after : Paths) : Type 0 where
  pub node : (path : List (List ℕ)) → is_prefix place path ≡ true → new path ≡ old path
  pub rough : (path : List (List ℕ)) → is_prefix place path ≡ true → after path ≡ before path

-- at and below a path stands a part, as rough as it came
pub record IsGivenAt (place : List (List ℕ)) (inner : Part) (its : Paths) (content : Part) (after : Paths) : Type 0 where
  pub node : (rel : List (List ℕ)) → content (place ++ rel) ≡ inner rel
  pub rough : (path : List (List ℕ)) → is_prefix place path ≡ true → after path ≡ its path
