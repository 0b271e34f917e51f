-- What a list of entries has at each path, once one was put, or a part was cut out or hung in.
use Rattle.mat_path.proofs.PathLemmas.{prefix-append}
use Rattle.mat_path.proofs.SameNames.{is_prefix-Decides, same_names-behind, same_names-eq, same_names-refl}
use Rattle.std.proofs.Common.{◌≡◌, ℕ, Bool, true, false, cond, List, ◌++◌, length, drop, refl, ap, sym, ◌∙◌, ◌≤◌, arith}
use Rattle.std.specs.Prelude.{Option, Some, None}
use Rattle.std.specs.List.{filter}
use Rattle.std.specs.Option.{ForSome, option_map}
use mathlib.Core.Bool.{true≢false}
use Rattle.std.proofs.lemmas.Option.{none-some, same_Some}
use Rattle.path_trie.specs.Entries.{cut_at, is_at, is_under, put, spliced, value_at, value_of}
use Rattle.path_trie.proofs.PartValues.{value_cut, value_spliced}
use Rattle.path_trie.proofs.Values.{find_gone, find_kept, value_put}
use Rattle.region_port.specs.Calls.{appended, is_file, with_more}
use Rattle.mat_path.specs.Names.{same_names, is_prefix}
use Rattle.mat_tree.specs.Parts.{Node, Part, file, folder, link, below, without, with_node, replaced}
use Rattle.region_port.specs.declared.node.DiskNode.{DiskNode}
use Rattle.region_port.specs.Entries.{Kept, content_of, node_at, node_kept}
use Rattle.region_port.proofs.Sizes.{size_put_there}

-- an entry that was put is what its path has
pub content_put : (place : List (List ℕ)) (kept : Option DiskNode) (entries : List Kept) (path : List (List ℕ))
    → content_of (put place kept entries) path ≡ cond (same_names path place) (node_at (Some kept)) (content_of entries path)
content_put place kept entries path = ap node_at (value_put path place kept entries) ∙ by (same_names path place)
  where
    by : (b : Bool) → node_at (cond b (Some kept) (value_at path entries)) ≡ cond b (node_at (Some kept)) (content_of entries path)
    by true = refl
    by false = refl

-- what is left of a list by a test that paths alone decide
pub content_filtered : (test : List (List ℕ) → Bool) (left : Kept → Bool) → ((entry : Kept) → left entry ≡ test entry.path) → (entries : List Kept) (path : List (List ℕ))
    → content_of (filter left entries) path ≡ cond (test path) (content_of entries path) None
content_filtered test left same entries path = by (test path) refl
  where
    here : (entry : Kept) → is_at path entry ≡ true → left entry ≡ test path
    here entry at = same entry ∙ ap test (sym (same_names-eq path entry.path at))

    off : (entry : Kept) → test path ≡ false → left entry ≡ true → is_at path entry ≡ false
    off entry e passes = one (is_at path entry) refl
      where
        one : (b : Bool) → is_at path entry ≡ b → b ≡ false
        one true at = absurd (true≢false (sym passes ∙ here entry at ∙ e))
        one false at = refl

    by : (b : Bool) → test path ≡ b → content_of (filter left entries) path ≡ cond b (content_of entries path) None
    by true e = ap (λ o. node_at (option_map value_of o)) (find_kept (is_at path) left (λ entry at. here entry at ∙ e) entries)
    by false e = ap (λ o. node_at (option_map value_of o)) (find_gone (is_at path) left (λ entry passes. off entry e passes) entries)

-- below a path the entries at and below it have all that the whole list has there
pub below_part : (place : List (List ℕ)) (entries : List Kept) → below place (content_of (filter (is_under place) entries)) ≡ below place (content_of entries)
below_part place entries =
    let each : (q : List (List ℕ)) → below place (content_of (filter (is_under place) entries)) q ≡ below place (content_of entries) q =
    λ q. content_filtered (is_prefix place) (is_under place) (λ entry. refl) entries (place ++ q)
    ∙ ap (λ b. cond b (content_of entries (place ++ q)) None) (prefix-append place q)
    in λ i q. each q i

-- a part that is cut out is missing
pub content_cut : (place : List (List ℕ)) (entries : List Kept) → content_of (cut_at place None entries) ≡ without place (content_of entries)
content_cut place entries =
    let each : (q : List (List ℕ)) → content_of (cut_at place None entries) q ≡ without place (content_of entries) q =
    λ q. ap node_at (value_cut place q None entries) ∙ by q (is_prefix place q) (same_names q place)
    in λ i q. each q i
  where
    by : (q : List (List ℕ)) (b c : Bool) → node_at (cond b (cond c (Some None) None) (value_at q entries)) ≡ cond b None (content_of entries q)
    by q true true = refl
    by q true false = refl
    by q false c = refl

-- a part that is hung in stands in the place of what was there
pub content_spliced : (place : List (List ℕ)) (part entries : List Kept) → content_of (spliced place part entries) ≡ replaced place (below place (content_of part)) (content_of entries)
content_spliced place part entries =
    let each : (q : List (List ℕ)) → content_of (spliced place part entries) q ≡ replaced place (below place (content_of part)) (content_of entries) q =
    λ q. ap node_at (value_spliced place q part entries) ∙ by q (is_prefix place q) refl
    in λ i q. each q i
  where
    by : (q : List (List ℕ)) (b : Bool) → is_prefix place q ≡ b
        → node_at (cond b (value_at q part) (value_at q entries)) ≡ cond b (content_of part (place ++ drop (length place) q)) (content_of entries q)
    by q true e = ap (content_of part) ((is_prefix-Decides place q).0 e)
    by q false e = refl

-- a put, as the part below a path sees it
pub with_node_put : (place rel path : List (List ℕ)) (node : DiskNode) (entries : List Kept) → path ≡ place ++ rel
    → below place (content_of (put path (Some node) entries)) ≡ with_node rel (node_kept node) (below place (content_of entries))
with_node_put place rel path node entries e =
    let each : (q : List (List ℕ)) → below place (content_of (put path (Some node) entries)) q ≡ with_node rel (node_kept node) (below place (content_of entries)) q =
    λ q. content_put path (Some node) entries (place ++ q)
    ∙ ap (λ b. cond b (Some (node_kept node)) (content_of entries (place ++ q))) (ap (same_names (place ++ q)) e ∙ same_names-behind place q rel)
    in λ i q. each q i

-- an append, as the part below a path sees it
pub below_appended : (place rel path : List (List ℕ)) (more : List ℕ) (content : Part) → path ≡ place ++ rel
    → below place (appended path more content) ≡ appended rel more (below place content)
below_appended place rel path more content e =
    let each : (q : List (List ℕ)) → below place (appended path more content) q ≡ appended rel more (below place content) q =
    λ q. ap (λ p. cond (same_names (place ++ q) p) (option_map (with_more more) (content p)) (content (place ++ q))) e
    ∙ ap (λ b. cond b (option_map (with_more more) (content (place ++ rel))) (content (place ++ q))) (same_names-behind place q rel)
    in λ i q. each q i

-- an append where nothing is changes nothing
pub appended_nothing : (path : List (List ℕ)) (more : List ℕ) (content : Part) → content path ≡ None → content ≡ appended path more content
appended_nothing path more content e =
    let each : (q : List (List ℕ)) → content q ≡ appended path more content q = λ q. by q (same_names q path) refl in
    λ i q. each q i
  where
    by : (q : List (List ℕ)) (b : Bool) → same_names q path ≡ b → content q ≡ cond b (option_map (with_more more) (content path)) (content q)
    by q true h = ap content (same_names-eq q path h) ∙ e ∙ sym (ap (option_map (with_more more)) e)
    by q false h = refl

-- ---- a node that is taken out, changed and put back

-- what was taken out left its place
pub place_kept : (path : List (List ℕ)) (old out : List Kept) → out ≡ put path None old → value_at path out ≡ Some None
place_kept path old out lifted = ap (value_at path) lifted ∙ value_put path path None old ∙ ap (λ b. cond b (Some None) (value_at path old)) (same_names-refl path)

module _ (path : List (List ℕ)) (kept changed : Option DiskNode) (old out now : List Kept)
    (lifted : out ≡ put path None old) (laid : now ≡ put path changed out) where
  -- then the node that comes back is what the path has
  pub changed_at : (q : List (List ℕ)) → content_of now q ≡ cond (same_names q path) (node_at (Some changed)) (content_of old q)
  changed_at q =
      ap (λ l. content_of l q) laid ∙ content_put path changed out q
      ∙ ap (λ l. cond (same_names q path) (node_at (Some changed)) (content_of l q)) lifted
      ∙ ap (cond (same_names q path) (node_at (Some changed))) (content_put path None old q)
      ∙ by (same_names q path)
    where
      by : (b : Bool) → cond b (node_at (Some changed)) (cond b None (content_of old q)) ≡ cond b (node_at (Some changed)) (content_of old q)
      by true = refl
      by false = refl

  -- a node with more bytes is an append
  pub changed_more : (more : List ℕ) → Some kept ≡ value_at path old → node_at (Some changed) ≡ option_map (with_more more) (node_at (Some kept)) → content_of now ≡ appended path more (content_of old)
  changed_more more was is =
      let each : (q : List (List ℕ)) → content_of now q ≡ appended path more (content_of old) q =
      λ q. changed_at q ∙ ap (λ o. cond (same_names q path) o (content_of old q)) (is ∙ ap (λ o. option_map (with_more more) (node_at o)) was)
      in λ i q. each q i

  -- and the same node changes nothing
  pub changed_same : Some kept ≡ value_at path old → node_at (Some changed) ≡ node_at (Some kept) → content_of now ≡ content_of old
  changed_same was is =
      let each : (q : List (List ℕ)) → content_of now q ≡ content_of old q = λ q. changed_at q ∙ by q (same_names q path) refl in
      λ i q. each q i
    where
      by : (q : List (List ℕ)) (b : Bool) → same_names q path ≡ b → cond b (node_at (Some changed)) (content_of old q) ≡ content_of old q
      by q true h = is ∙ ap node_at was ∙ ap (content_of old) (sym (same_names-eq q path h))
      by q false h = refl

  -- either leaves as many entries
  pub changed_few : Some kept ≡ value_at path old → length now ≤ length old
  changed_few was =
      let first = size_put_there path None old kept was in
      let second = size_put_there path changed out None (sym (place_kept path old out lifted)) in
      omega (arith, first, second, ap length laid, ap length lifted)

-- where a put of a file was done, the file may be appended to
pub put_allows_append : (rel : List (List ℕ)) (bytes : List ℕ) (exec : Bool) (before now : Option Part) → now ≡ option_map (with_node rel (file bytes exec)) before → ForSome now (λ part. is_file (part rel) ≡ true)
put_allows_append rel bytes exec None now e part k = absurd (none-some part (sym e ∙ k))
put_allows_append rel bytes exec (Some old) now e part k =
    ap (λ (p : Part). is_file (p rel)) (sym (same_Some (with_node rel (file bytes exec) old) part (sym e ∙ k)))
    ∙ ap (λ b. is_file (cond b (Some (file bytes exec)) (old rel))) (same_names-refl rel)

-- and where an append was done, it may be appended to again
pub append_allows_append : (rel : List (List ℕ)) (more : List ℕ) (before now : Option Part) → ForSome before (λ part. is_file (part rel) ≡ true) → now ≡ option_map (appended rel more) before
    → ForSome now (λ part. is_file (part rel) ≡ true)
append_allows_append rel more None now is e part k = absurd (none-some part (sym e ∙ k))
append_allows_append rel more (Some old) now is e part k =
    ap (λ (p : Part). is_file (p rel)) (sym (same_Some (appended rel more old) part (sym e ∙ k)))
    ∙ ap (λ b. is_file (cond b (option_map (with_more more) (old rel)) (old rel))) (same_names-refl rel)
    ∙ stays (old rel) (is old refl)
  where
    stays : (o : Option Node) → is_file o ≡ true → is_file (option_map (with_more more) o) ≡ true
    stays None is = absurd (true≢false (sym is))
    stays (Some folder) is = absurd (true≢false (sym is))
    stays (Some (file bytes exec)) is = refl
    stays (Some (link target)) is = absurd (true≢false (sym is))
