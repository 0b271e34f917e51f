-- What a crash leaves of the entries of a disk, at each path.
use Rattle.mat_path.proofs.SameNames.{same_names-eq, same_names-refl}
use Rattle.std.proofs.Common.{◌≡◌, ℕ, Bool, true, false, ◌||◌, not, cond, inl, inr, List, [], ◌∷◌, ◌++◌, map, length, take, get_or, ◌+◌, ◌<◌, refl, ap, sym, ◌∙◌, Bor}
use Rattle.std.specs.Prelude.{Option, Some, None}
use Rattle.std.specs.List.{filter, list_any}
use Rattle.std.specs.Option.{option_map}
use Rattle.std.specs.declared.vec.Vec.{Vec}
use Rattle.std.specs.declared.alloc.Global.{Global}
use Rattle.std.proofs.lemmas.Bool.{false_from_ne_true, or_cases, or_from, or_parts, or_right}
use Rattle.std.proofs.lemmas.List.{take_more}
use Rattle.std.proofs.lemmas.List.Folds.{list_any-append}
use mathlib.Core.Bool.{true≢false}
use Rattle.mat_path.specs.Names.{is_prefix, same_names}
use Rattle.mat_tree.specs.Parts.{Node, Part}
use Rattle.path_trie.specs.Edits.{edited_entry}
use Rattle.path_trie.specs.Entries.{is_outside, value_at}
use Rattle.path_trie.proofs.PartValues.{value_edited}
use Rattle.region_port.specs.Crashes.{Crashes, is_above, left_where, torn, torn_kept, torn_where}
use Rattle.region_port.specs.Entries.{Kept, content_of, node_at, node_kept, paths_of}
use Rattle.region_port.specs.Lists.{all_of}
use Rattle.region_port.specs.declared.crash.Rest.{Rest}
use Rattle.region_port.specs.declared.crash.Rest.TheVariants as rest
use Rattle.region_port.specs.declared.node.DiskNode.{DiskNode}
use Rattle.region_port.specs.declared.node.DiskNode.TheVariants as kept
use Rattle.region_port.proofs.Content.{content_filtered}
use Rattle.region_port.proofs.Lists.{all_of-pushed}

-- one segment more
pub any_above-pushed : (path : List (List ℕ)) (segments : List (Bor (Vec (List (List ℕ)) Global))) (segment : Bor (Vec (List (List ℕ)) Global))
    → (list_any (is_above path) (all_of (map (λ s. s.now) segments)) || list_any (is_above path) segment.now.items)
    ≡ list_any (is_above path) (all_of (map (λ s. s.now) (segments ++ segment ∷ [])))
any_above-pushed path segments segment =
    sym (ap (list_any (is_above path)) (all_of-pushed segments segment) ∙ list_any-append (is_above path) (all_of (map (λ s. s.now) segments)) segment.now.items)

-- a torn node, as contracts see it
torn-kept : (node : DiskNode) → node_kept (torn_kept node) ≡ torn (node_kept node)
torn-kept kept.Dir = refl
torn-kept (kept.File bytes exec) = refl
torn-kept (kept.Link target) = refl

-- once what is rough is torn
pub content_torn : (rough : List (List (List ℕ))) (entries : List Kept) (path : List (List ℕ))
    → content_of (map (edited_entry (torn_where rough)) entries) path ≡ left_where (list_any (is_above path) rough) rest.Torn (content_of entries path)
content_torn rough entries path =
    ap node_at (value_edited path (torn_where rough) entries) ∙ by (list_any (is_above path) rough) (value_at path entries)
  where
    by : (b : Bool) (o : Option (Option DiskNode)) → node_at (option_map (λ was. cond b (option_map torn_kept was) was) o) ≡ left_where b rest.Torn (node_at o)
    by true None = refl
    by true (Some None) = refl
    by true (Some (Some node)) = ap Some (torn-kept node)
    by false None = refl
    by false (Some was) = refl

-- once what is at and below one path more is removed
pub cleared_more : (old mid now : Option Node) (before here : Bool) → mid ≡ cond before None old → now ≡ cond here None mid → now ≡ cond (before || here) None old
cleared_more old mid now true true e f = f
cleared_more old mid now true false e f = f ∙ e
cleared_more old mid now false true e f = f
cleared_more old mid now false false e f = f ∙ e

-- one path more
pub any_taken : {X : Type 0} (test : X → Bool) (xs : List X) (i : ℕ) (x : X) → i < length xs → x ≡ get_or xs i x → list_any test (take (i + 1) xs) ≡ (list_any test (take i xs) || test x)
any_taken test xs i x l e =
    ap (list_any test) (take_more xs i x l ∙ ap (λ y. take i xs ++ y ∷ []) (sym e)) ∙ list_any-append test (take i xs) (x ∷ []) ∙ ap (λ b. list_any test (take i xs) || b) (alone (test x))
  where
    alone : (b : Bool) → (b || false) ≡ b
    alone true = refl
    alone false = refl

-- what is left once all at and below a path is removed
pub content_cleared : (place : List (List ℕ)) (entries : List Kept) (path : List (List ℕ)) → content_of (filter (is_outside place) entries) path ≡ cond (is_prefix place path) None (content_of entries path)
content_cleared place entries path =
    content_filtered (λ q. not (is_prefix place q)) (is_outside place) (λ entry. refl) entries path ∙ by (is_prefix place path)
  where
    by : (b : Bool) → cond (not b) (content_of entries path) None ≡ cond b None (content_of entries path)
    by true = refl
    by false = refl

-- a path is at or below none of some where no rough path is at or above it
none_above : (list : List (List (List ℕ))) (path : List (List ℕ)) → ((above : List (List ℕ)) → is_prefix above path ≡ true → paths_of list above ≡ false) → list_any (is_above path) list ≡ false
none_above [] path none = refl
none_above (p ∷ ps) path none =
    or_from (is_prefix p path) (list_any (is_above path) ps)
    (false_from_ne_true (is_prefix p path) (λ h. true≢false (sym (ap (λ b. b || paths_of ps p) (same_names-refl p)) ∙ none p h)))
    (none_above ps path (λ above h. (or_parts (same_names above p) (paths_of ps above) (none above h)).1))

-- and at or below one of them where one is
some_above : (list : List (List (List ℕ))) (path above : List (List ℕ)) → paths_of list above ≡ true → is_prefix above path ≡ true → list_any (is_above path) list ≡ true
some_above [] path above e h = absurd (true≢false (sym e))
some_above (p ∷ ps) path above e h =
    elim (or_cases (same_names above p) (paths_of ps above) e) [
      | inl here ↦ ap (λ b. b || list_any (is_above path) ps) (ap (λ q. is_prefix q path) (sym (same_names-eq above p here)) ∙ h)
      | inr later ↦ or_right (is_prefix p path) (list_any (is_above path) ps) (some_above ps path above later h)
    ]

-- what a crash leaves, path by path
pub crashes : (rest : Rest) (list : List (List (List ℕ))) (before now : Part) → ((path : List (List ℕ)) → now path ≡ left_where (list_any (is_above path) list) rest (before path)) → Crashes rest (paths_of list) before now
crashes rest list before now each = record {
  spared = λ path none. each path ∙ ap (λ b. left_where b rest (before path)) (none_above list path none);
  hit = λ path above rough h. each path ∙ ap (λ b. left_where b rest (before path)) (some_above list path above rough h);
}
