-- What a disk has again once parts that it lent are given back as they were.
use Rattle.std.proofs.Common.{◌≡◌, ◌≤◌, ℕ, Bool, true, false, not, ◌&&◌, ◌||◌, cond, List, [], ◌∷◌, ◌++◌, drop, length, filter, Option, Some, None, refl, sym, ap, subst, ◌∙◌, le_refl, arith}
use Rattle.std.specs.List.{list_any}
use Rattle.std.specs.Option.{option_map}
use Rattle.std.proofs.lemmas.Bool.{both_ways, or_right}
use Rattle.std.proofs.Math.Nat.{min-eq_left}
use Rattle.mat_io.specs.Watches.{Watch}
use Rattle.mat_path.specs.Covering.{is_other_path}
use Rattle.mat_path.specs.Names.{is_prefix, overlap, same_names}
use Rattle.mat_path.proofs.Overlaps.{overlap-refl}
use Rattle.mat_path.proofs.PathLemmas.{prefix_split}
use Rattle.mat_path.proofs.SameNames.{same_names-eq, same_names-refl}
use Rattle.mat_tree.specs.Parts.{Part, below, replaced, without}
use Rattle.region_port.specs.Calls.{Paths, paths_below, paths_of_both, paths_outside, with_inner}
use Rattle.region_port.specs.Watches.{joined_watch, newly_lent}
use Rattle.core_laws.specs.Places.{IsSameBelow}
use Rattle.core_devices.specs.Events.{AreSameParts, HasAgain, IsCounted}
use Rattle.core_devices.specs.Takes.{IsFreeAt, IsPartAt, IsTaken, less_at, less_taken}
use Rattle.core_devices.specs.Told.{ToldDisk, ToldPart}

-- a part that is given back unchanged to a disk that has, place by place, what was left there
back_same : (t : List (List ℕ)) (content now : Part) (rough later : Paths) → IsSameBelow [] (without t content) (paths_outside t rough) now later →
    IsSameBelow [] content rough (replaced t (below t content) now) (paths_of_both later (paths_below t (paths_below t rough)))
back_same t content now rough later same = record {
  node = λ path within. node path within;
  rough = λ path within. ap (λ b. b || (is_prefix t path && (is_prefix t path && rough path))) (same.rough path within) ∙ by (is_prefix t path) (rough path);
}
  where
    node : (path : List (List ℕ)) → is_prefix [] path ≡ true → replaced t (below t content) now path ≡ content path
    node path within =
        elim (is_prefix t path) as (λ b. is_prefix t path ≡ b → cond b (below t content (drop (length t) path)) (now path) ≡ content path) [
          | true ↦ λ above. ap content (sym (prefix_split t path above))
          | false ↦ λ aside. same.node path within ∙ ap (λ b. cond b None (content path)) aside
        ] refl

    by : (b r : Bool) → ((not b && r) || (b && (b && r))) ≡ r
    by true true = refl
    by true false = refl
    by false true = refl
    by false false = refl

-- the same where a disk may tell or not
parts_again : (t : List (List ℕ)) (old now : Option Part) (rough later : Paths) → AreSameParts (option_map (without t) old) (paths_outside t rough) now later →
    AreSameParts old rough (with_inner t (option_map (below t) old) now) (paths_of_both later (paths_below t (paths_below t rough)))
parts_again t None None rough later same = tt
parts_again t None (Some now) rough later same = absurd same
parts_again t (Some content) None rough later same = absurd same
parts_again t (Some content) (Some now) rough later same = back_same t content now rough later same

-- a path that overlaps none of some loans is the one that goes
others_stay : (path : List (List ℕ)) (lent : List (List (List ℕ))) → list_any (overlap path) lent ≡ false → filter (is_other_path path) (lent ++ path ∷ []) ≡ lent
others_stay path [] free = ap (λ b. cond (not b) (path ∷ []) []) (same_names-refl path)
others_stay path (loan ∷ lent) free = by (overlap path loan) refl (same_names path loan) refl free (others_stay path lent)
  where
    by : (o : Bool) → overlap path loan ≡ o → (s : Bool) → same_names path loan ≡ s → (o || list_any (overlap path) lent) ≡ false →
        (list_any (overlap path) lent ≡ false → filter (is_other_path path) (lent ++ path ∷ []) ≡ lent) →
        cond (not (same_names path loan)) (loan ∷ filter (is_other_path path) (lent ++ path ∷ [])) (filter (is_other_path path) (lent ++ path ∷ [])) ≡ loan ∷ lent
    by true over other same none more = absurd (both_ways true none refl)
    by false apart true same none more =
        absurd (both_ways (overlap path loan) apart
        (subst (λ (p : List (List ℕ)). overlap path p ≡ true) (same_names-eq path loan same) (overlap-refl path)))
    by false apart false same none more =
        ap (λ b. cond (not b) (loan ∷ filter (is_other_path path) (lent ++ path ∷ [])) (filter (is_other_path path) (lent ++ path ∷ []))) same
        ∙ ap (λ (l : List (List (List ℕ))). loan ∷ l) (more none)

-- a part that wasn't called adds nothing to the calls of its disk
uncalled_joins : (watch : Option Watch) → IsCounted watch → joined_watch (option_map newly_lent watch) watch ≡ watch
uncalled_joins None counted = refl
uncalled_joins (Some watch) counted =
    ap (λ n. Some (record { calls = n; armed = watch.armed }))
    (min-eq_left (let most = counted in omega (arith, most)) ∙ omega (arith))

-- a disk that has again, without a part that was taken, what it had, and to which this is given back as it was
pub given_again : (path : List (List ℕ)) (before now later : ToldDisk) (part : ToldPart) → list_any (overlap path) before.lent ≡ false →
    IsPartAt path before.content before.rough before.watch part → HasAgain (less_taken path before) now →
    later.content ≡ with_inner part.place part.content now.content → later.lent ≡ filter (is_other_path part.place) now.lent →
    later.rough ≡ paths_of_both now.rough (paths_below part.place part.rough) → now.faults ≤ later.faults →
    later.watch ≡ joined_watch part.watch now.watch → HasAgain before later
given_again path before now later part free at again content lent rough faults watch = record {
  parts = subst (λ o. AreSameParts before.content before.rough o later.rough) (sym content_is)
      (subst (λ q. AreSameParts before.content before.rough (with_inner path (option_map (below path) before.content) now.content) q) (sym rough_is)
      (parts_again path before.content now.content before.rough now.rough again.parts));
  lent = lent ∙ ap (λ p. filter (is_other_path p) now.lent) at.place ∙ ap (filter (is_other_path path)) again.lent ∙ others_stay path before.lent free;
  faults = let less = again.faults in omega (arith, less, faults);
  watch = λ counted.
      watch ∙ ap (λ w. joined_watch w now.watch) at.watch ∙ ap (joined_watch (option_map newly_lent before.watch)) (again.watch counted)
      ∙ uncalled_joins before.watch counted;
}
  where
    content_is : later.content ≡ with_inner path (option_map (below path) before.content) now.content
    content_is = content ∙ ap (λ p. with_inner p part.content now.content) at.place ∙ ap (λ o. with_inner path o now.content) at.content

    rough_is : later.rough ≡ paths_of_both now.rough (paths_below path (paths_below path before.rough))
    rough_is = rough ∙ ap (λ p. paths_of_both now.rough (paths_below p part.rough)) at.place ∙ ap (λ r. paths_of_both now.rough (paths_below path r)) at.rough

-- a disk that tells what it told has again what it had
same_parts : (told : Option Part) (rough : Paths) → AreSameParts told rough told rough
same_parts None rough = tt
same_parts (Some content) rough = record { node = λ path within. refl; rough = λ path within. refl }

pub same_again : (before now : ToldDisk) → now.content ≡ before.content → now.lent ≡ before.lent → now.rough ≡ before.rough → before.faults ≤ now.faults →
    now.watch ≡ before.watch → HasAgain before now
same_again before now content lent rough faults watch = record {
  parts = subst (λ o. AreSameParts before.content before.rough o now.rough) (sym content)
      (subst (λ q. AreSameParts before.content before.rough before.content q) (sym rough) (same_parts before.content before.rough));
  lent = lent;
  faults = faults;
  watch = λ counted. watch;
}

-- a disk that lent nothing has again what it had
option_same : (o : Option Part) → option_map (less_at None) o ≡ o
option_same None = refl
option_same (Some content) = refl

no_more : (lent : List (List (List ℕ))) → lent ++ [] ≡ lent
no_more [] = refl
no_more (loan ∷ lent) = ap (λ (l : List (List (List ℕ))). loan ∷ l) (no_more lent)

pub untaken_again : (at : Option (List (List ℕ))) (before now : ToldDisk) → IsTaken at before now None → HasAgain before now
untaken_again None before now taken =
    same_again before now (taken.content ∙ option_same before.content) (taken.lent ∙ no_more before.lent) taken.rough
    (subst (λ n. before.faults ≤ n) (sym taken.faults) (le_refl before.faults)) taken.watch
untaken_again (Some path) before now taken = absurd taken.part

-- so has one to which the part that it lent is given back
pub source_again : (at : Option (List (List ℕ))) (before now later : ToldDisk) (part : ToldPart) → IsFreeAt at before.lent → IsTaken at before now (Some part) →
    later.content ≡ with_inner part.place part.content now.content → later.lent ≡ filter (is_other_path part.place) now.lent →
    later.rough ≡ paths_of_both now.rough (paths_below part.place part.rough) → now.faults ≤ later.faults →
    later.watch ≡ joined_watch part.watch now.watch → HasAgain before later
source_again None before now later part free taken content lent rough faults watch = absurd taken.part
source_again (Some path) before now later part free taken content lent rough faults watch =
    given_again path before now later part free taken.part
    (same_again (less_taken path before) now taken.content taken.lent taken.rough (subst (λ n. before.faults ≤ n) (sym taken.faults) (le_refl before.faults))
    taken.watch) content lent rough faults watch

-- the last one of some loans is one of them
last_out : (path : List (List ℕ)) (lent : List (List (List ℕ))) → list_any (same_names path) (lent ++ path ∷ []) ≡ true
last_out path [] = ap (λ b. b || false) (same_names-refl path)
last_out path (loan ∷ lent) = or_right (same_names path loan) (list_any (same_names path) (lent ++ path ∷ [])) (last_out path lent)

pub source_out : (at : Option (List (List ℕ))) (before now : ToldDisk) (part : ToldPart) → IsTaken at before now (Some part) →
    list_any (same_names part.place) now.lent ≡ true
source_out None before now part taken = absurd taken.part
source_out (Some path) before now part taken =
    subst (λ p. list_any (same_names p) now.lent ≡ true) (sym taken.part.place)
    (subst (λ l. list_any (same_names path) l ≡ true) (sym taken.lent) (last_out path before.lent))

pub task_out : (path : List (List ℕ)) (before now : ToldDisk) (part : ToldPart) → IsPartAt path before.content before.rough before.watch part →
    HasAgain (less_taken path before) now → list_any (same_names part.place) now.lent ≡ true
task_out path before now part at again =
    subst (λ p. list_any (same_names p) now.lent ≡ true) (sym at.place)
    (subst (λ l. list_any (same_names path) l ≡ true) (sym again.lent) (last_out path before.lent))
