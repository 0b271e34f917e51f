-- Loans that don't overlap: each path is at or below one of them at most.
use Rattle.mat_path.proofs.CoveringLemmas.{among_contains, apart_within, covering-apart, covering-filter, covering-push}
use Rattle.mat_path.proofs.Elements.{each_fails}
use Rattle.mat_path.proofs.SameNames.{same_names-eq}
use Rattle.mat_path.specs.Covering.{covering, is_other_path}
use Rattle.std.proofs.Common.{◌≡◌, ℕ, ◌+◌, ◌≤◌, Bool, true, false, ◌&&◌, ◌||◌, cond, inl, inr, List, [], ◌∷◌, ◌++◌, refl, ap, sym, ◌∙◌, arith}
use Rattle.std.proofs.lemmas.Bool.{and_parts, not-true, or_cases}
use Rattle.std.proofs.lemmas.List.Folds.{list_any-append}
use Rattle.std.proofs.lemmas.Map.Views.{any-filter_same}
use mathlib.Core.Bool.{true≢false}
use Rattle.std.specs.List.{filter, list_any}
use Rattle.mat_path.specs.Names.{same_names, is_prefix, overlap}
use Rattle.std.specs.Prelude.{Option}
use Rattle.path_trie.specs.Entries.{cut_at, is_under, spliced}
use Rattle.path_trie.proofs.PartValues.{under_apart, under_cut}
use Rattle.path_trie.proofs.Parted.{mark_spliced}
use Rattle.region_port.specs.Entries.{Kept}
use Rattle.region_port.specs.declared.node.DiskNode.{DiskNode}

module _ (place : List (List ℕ)) (loans now : List (List (List ℕ))) (apart : (q : List (List ℕ)) → covering q loans ≤ 1) where
  -- a new loan that overlaps none
  pub apart-taken : now ≡ loans ++ place ∷ [] → list_any (overlap place) loans ≡ false → (q : List (List ℕ)) → covering q now ≤ 1
  apart-taken e none q = by (is_prefix place q) refl (covering-push q loans place)
    where
      by : (b : Bool) → is_prefix place q ≡ b → covering q (loans ++ place ∷ []) ≡ covering q loans + cond b 1 0 → covering q now ≤ 1
      by true h c = omega (arith, ap (covering q) e, c, covering-apart place q loans none h)
      by false h c = omega (arith, ap (covering q) e, c, apart q)

  -- once a loan is given back, still no path is covered twice
  pub apart-given : now ≡ filter (is_other_path place) loans → (q : List (List ℕ)) → covering q now ≤ 1
  apart-given e q = omega (arith, ap (covering q) e, covering-filter (is_other_path place) q loans, apart q)

  -- once a part is cut out for a new loan, something stands at or below each loan
  pub marked-taken : (mark : Option DiskNode) (nodes cut : List Kept) → ((q : List (List ℕ)) → list_any (same_names q) loans ≡ true → list_any (is_under q) nodes ≡ true)
      → now ≡ loans ++ place ∷ [] → list_any (overlap place) loans ≡ false → cut ≡ cut_at place mark nodes
      → (q : List (List ℕ)) → list_any (same_names q) now ≡ true → list_any (is_under q) cut ≡ true
  marked-taken mark nodes cut marked e none c q out =
      ap (list_any (is_under q)) c
      ∙ elim (or_cases (list_any (same_names q) loans) (same_names q place || false) (sym (list_any-append (same_names q) loans (place ∷ [])) ∙ ap (list_any (same_names q)) (sym e) ∙ out)) [
        | inl old ↦ ap (list_any (is_under q)) (sym (mark_spliced place mark nodes))
            ∙ under_apart place q (record { path = place; value = mark } ∷ []) nodes (each_fails (overlap place) loans q none (among_contains q loans old)) ∙ marked q old
        | inr new ↦ ap (λ p. list_any (is_under p) (cut_at place mark nodes)) (same_names-eq q place (or_none new)) ∙ under_cut place mark nodes
      ]
    where
      or_none : (same_names q place || false) ≡ true → same_names q place ≡ true
      or_none h = elim (or_cases (same_names q place) false h) [
        | inl here ↦ here
        | inr never ↦ absurd (true≢false (sym never))
      ]

  -- and so once a part is hung in where its loan ends
  pub marked-given : (part nodes hung : List Kept) → ((q : List (List ℕ)) → list_any (same_names q) loans ≡ true → list_any (is_under q) nodes ≡ true)
      → now ≡ filter (is_other_path place) loans → list_any (same_names place) loans ≡ true → hung ≡ spliced place part nodes
      → (q : List (List ℕ)) → list_any (same_names q) now ≡ true → list_any (is_under q) hung ≡ true
  marked-given part nodes hung marked e out h q left =
      let both : (is_other_path place q && list_any (same_names q) loans) ≡ true =
      sym (any-filter_same (same_names q) (is_other_path place) (is_other_path place q) (λ k same. ap (is_other_path place) (sym (same_names-eq q k same))) loans)
      ∙ ap (list_any (same_names q)) (sym e) ∙ left in
      let parts = and_parts (is_other_path place q) (list_any (same_names q) loans) both in
      ap (list_any (is_under q)) h
      ∙ under_apart place q part nodes
      (apart_within loans apart place q (among_contains place loans out) (among_contains q loans parts.1) (not-true (same_names place q) parts.0))
      ∙ marked q parts.1
