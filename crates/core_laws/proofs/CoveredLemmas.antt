-- Nodes and rough paths within some places, where parts are taken and given and places come and go.
use Rattle.std.proofs.Common.{◌≡◌, ◌≤◌, ℕ, Bool, true, false, not, ◌&&◌, ◌||◌, cond, List, length, drop, None, refl, Contains, arith}
use Rattle.std.specs.Option.{is_some}
use Rattle.std.proofs.lemmas.Bool.{false_from_ne_true}
use Rattle.mat_path.specs.Covering.{covering}
use Rattle.mat_path.specs.Names.{is_prefix}
use Rattle.mat_path.proofs.CoveringLemmas.{covering-below}
use Rattle.mat_tree.specs.Parts.{Part, replaced, without}
use Rattle.region_port.specs.Calls.{Paths, paths_below, paths_of_both, paths_outside}
use Rattle.core_laws.specs.Covered.{AreKeptAside, AreKeptPlaces, AreNodesWithin, IsRoughWithin}
use Rattle.core_laws.specs.Loans.{AreOut}

-- ---- takes

pub take_nodes : (places others : List (List (List ℕ))) (taken : List (List ℕ)) (content : Part) → AreNodesWithin places content →
    AreKeptAside taken places others → AreNodesWithin others (without taken content)
take_nodes places others taken content within kept =
    λ path there. by path (is_prefix taken path) refl there
  where
    by : (path : List (List ℕ)) (b : Bool) → is_prefix taken path ≡ b → is_some (cond b None (content path)) ≡ true → 1 ≤ covering path others
    by path true is there = absurd cc
    by path false is there = kept path is (within path there)

pub take_rough : (places others : List (List (List ℕ))) (taken : List (List ℕ)) (rough : Paths) → IsRoughWithin places rough →
    AreKeptAside taken places others → IsRoughWithin others (paths_outside taken rough)
take_rough places others taken rough within kept =
    λ path there. by path (is_prefix taken path) refl there
  where
    by : (path : List (List ℕ)) (b : Bool) → is_prefix taken path ≡ b → (not b && rough path) ≡ true → 1 ≤ covering path others
    by path true is there = absurd cc
    by path false is there = kept path is (within path there)

-- ---- gives

-- what is at or below a place that is covered is covered
below_covered : (places : List (List (List ℕ))) (given path : List (List ℕ)) → 1 ≤ covering given places → is_prefix given path ≡ true →
    1 ≤ covering path places
below_covered places given path most below = let more = covering-below given path places below in omega (arith, most, more)

pub give_nodes : (places : List (List (List ℕ))) (given : List (List ℕ)) (inner content : Part) → AreNodesWithin places content →
    1 ≤ covering given places → AreNodesWithin places (replaced given inner content)
give_nodes places given inner content within most =
    λ path there. by path (is_prefix given path) refl there
  where
    by : (path : List (List ℕ)) (b : Bool) → is_prefix given path ≡ b → is_some (cond b (inner (drop (length given) path)) (content path)) ≡ true →
        1 ≤ covering path places
    by path true is there = below_covered places given path most is
    by path false is there = within path there

pub bare_nodes : (places : List (List (List ℕ))) (given : List (List ℕ)) (inner content : Part) → AreNodesWithin places content →
    ((rel : List (List ℕ)) → inner rel ≡ None) → AreNodesWithin places (replaced given inner content)
bare_nodes places given inner content within bare =
    λ path there. by path (is_prefix given path) there
  where
    by : (path : List (List ℕ)) (b : Bool) → is_some (cond b (inner (drop (length given) path)) (content path)) ≡ true → 1 ≤ covering path places
    by path true there = let none = bare (drop (length given) path) in absurd cc
    by path false there = within path there

pub give_rough : (places : List (List (List ℕ))) (given : List (List ℕ)) (its rough : Paths) → IsRoughWithin places rough →
    1 ≤ covering given places → IsRoughWithin places (paths_of_both rough (paths_below given its))
give_rough places given its rough within most =
    λ path there. by path (rough path) refl (is_prefix given path) refl there
  where
    by : (path : List (List ℕ)) (r : Bool) → rough path ≡ r → (b : Bool) → is_prefix given path ≡ b → (r || (b && its path)) ≡ true →
        1 ≤ covering path places
    by path true was b is there = within path was
    by path false was true is there = below_covered places given path most is
    by path false was false is there = absurd cc

pub settled_rough : (places : List (List (List ℕ))) (given : List (List ℕ)) (its rough : Paths) → IsRoughWithin places rough →
    ((path : List (List ℕ)) → is_prefix given path ≡ true → its path ≡ false) → IsRoughWithin places (paths_of_both rough (paths_below given its))
settled_rough places given its rough within none =
    λ path there. by path (rough path) refl (is_prefix given path) refl there
  where
    by : (path : List (List ℕ)) (r : Bool) → rough path ≡ r → (b : Bool) → is_prefix given path ≡ b → (r || (b && its path)) ≡ true →
        1 ≤ covering path places
    by path true was b is there = within path was
    by path false was true is there = let fails = none path is in absurd cc
    by path false was false is there = absurd cc

-- ---- places that are kept but for what is out

-- what the disk has isn't out
pub node_aside : (lent : List (List (List ℕ))) (content : Part) (rough : Paths) → AreOut lent content rough → (path : List (List ℕ)) →
    is_some (content path) ≡ true → (loan : List (List ℕ)) → Contains lent loan → is_prefix loan path ≡ false
node_aside lent content rough out path there loan among =
    false_from_ne_true (is_prefix loan path) (λ below. let none = (out loan among).node path below in absurd cc)

pub rough_aside : (lent : List (List (List ℕ))) (content : Part) (rough : Paths) → AreOut lent content rough → (path : List (List ℕ)) →
    rough path ≡ true → (loan : List (List ℕ)) → Contains lent loan → is_prefix loan path ≡ false
rough_aside lent content rough out path there loan among =
    false_from_ne_true (is_prefix loan path) (λ below. let none = (out loan among).settled path below in absurd cc)

pub kept_nodes : (lent places others : List (List (List ℕ))) (content : Part) (rough : Paths) → AreOut lent content rough →
    AreKeptPlaces lent places others → AreNodesWithin places content → AreNodesWithin others content
kept_nodes lent places others content rough out kept within =
    λ path there. kept path (node_aside lent content rough out path there) (within path there)

pub kept_rough : (lent places others : List (List (List ℕ))) (content : Part) (rough : Paths) → AreOut lent content rough →
    AreKeptPlaces lent places others → IsRoughWithin places rough → IsRoughWithin others rough
kept_rough lent places others content rough out kept within =
    λ path there. kept path (rough_aside lent content rough out path there) (within path there)
