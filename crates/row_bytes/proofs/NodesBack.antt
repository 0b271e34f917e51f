-- Nodes and trees that are read are those that were written, and what was written is read again.
use Rattle.std.proofs.Common.{◌≡◌, ℕ, suc, zero, ◌+◌, ◌-◌, ◌^◌, ◌<◌, ◌≤◌, Bool, true, false, ◌&&◌, not, cond, eqb, nat_le, nat_lt, List, [], ◌∷◌, ◌++◌, length, All, Option, Some, None, Result, Ok, Err, refl, sym, ap, ap₂, subst, ◌∙◌, append_assoc, append-nil, arith}
use Rattle.std.specs.Int.{w16, w32, to_be_bytes}
use Rattle.std.specs.List.{flat_map, list_all}
use Rattle.std.specs.Cmp.{first_so, second_so}
use Rattle.std.proofs.lemmas.Bool.{and_from, eqb-true, leb-true, le-leb}
use Rattle.std.proofs.lemmas.List.Concat.{flat_map-cons}
use Rattle.std.proofs.lemmas.List.Splits.{join_with_byte-slice_split}
use Rattle.std.proofs.lemmas.List.Elements.{All-cons, All-head, All-nil, All-tail}
use Rattle.mat_digest.specs.Digests.{IsDigest}
use Rattle.mat_digest.specs.declared.digest.Digest.{Digest}
use Rattle.mat_path.proofs.ReadLemmas.{rel_read_back}
use Rattle.mat_path.proofs.SameNames.{same_name-eq, same_names-eq}
use Rattle.mat_path.specs.Names.{is_name, is_path, is_rel, is_target, is_text_byte, joined, path_of, pieces, rel_of, rel_text, same_name}
use Rattle.mat_tree.proofs.Last.{leaf_follows}
use Rattle.mat_tree.proofs.Refusals.{is_tree_no_refusal, no_refusal_linked}
use Rattle.mat_tree.specs.Trees.{IsNode, IsTree, IsWhat, ascends, follows, greatest_file, has_parent, has_rel, is_dir, is_dir_at, is_link, is_linked, is_root, is_small, what_size}
use Rattle.mat_tree.specs.declared.flat.Flat.{Flat}
use Rattle.mat_tree.specs.declared.flat.What.{What}
use Rattle.mat_tree.specs.declared.flat.What.TheVariants as what
use Rattle.row_bytes.specs.Rows.{file_bytes, kind_byte, node_bytes, root_bytes, sized, tree_bytes, what_bytes}
use Rattle.row_bytes.specs.Reading.{◌>>=◌, Fails, Field, Read, coming, dir_at, digest_at, file_at, fitting, is_begun, mark_at, mark_of, may_come, node_at, nodes_at, number_within, place, rel_at, root_at, rooted, start, target_at, target_of, text_at, tree_at, what_at}
use Rattle.row_bytes.specs.declared.mark.Mark.{Mark}
use Rattle.row_bytes.specs.declared.mark.Mark.TheVariants as mark
use Rattle.row_bytes.specs.declared.refusal.RowRefusal.{RowRefusal}
use Rattle.row_bytes.specs.declared.refusal.RowRefusal.TheVariants as refusal
use Rattle.row_bytes.proofs.FieldsBack.{IsBytes, IsBytes-rest, Takes, Takes-then, bind_ok, digest_again, digest_takes, fitted, ok_is, text_again, text_takes, wide32, within_again, within_takes}
use Rattle.row_bytes.proofs.Fronts.{begun_more, begun_tree, comes_next}

-- ---- marks

mark_byte : Mark → ℕ
mark_byte (mark.File false) = 0
mark_byte (mark.File true) = 1
mark_byte mark.Dir = 2
mark_byte mark.Link = 3

mark_step : (b k : ℕ) (x m : Mark) (o : Option Mark) → k ≡ mark_byte x → (o ≡ Some m → b ≡ mark_byte m) → cond (eqb b k) (Some x) o ≡ Some m → b ≡ mark_byte m
mark_step b k x m o is other e = by (eqb b k) refl e
  where
    same : Some x ≡ Some m → x ≡ m
    same e = cc

    by : (t : Bool) → eqb b k ≡ t → cond t (Some x) o ≡ Some m → b ≡ mark_byte m
    by true h e = eqb-true b k h ∙ is ∙ ap mark_byte (same e)
    by false h e = other e

mark_is : (b : ℕ) (m : Mark) → mark_of b ≡ Some m → b ≡ mark_byte m
unfolding mark_byte
mark_is b m e =
    mark_step b 0 (mark.File false) m _ refl (mark_step b 1 (mark.File true) m _ refl (mark_step b 2 mark.Dir m _ refl
    (mark_step b 3 mark.Link m None refl (λ (h : None ≡ Some m). absurd cc)))) e

mark_takes : (end : ℕ) (bytes : List ℕ) (x : Mark × List ℕ) → IsBytes bytes → mark_at end bytes ≡ Ok x → Takes bytes (mark_byte x.0 ∷ []) x.1
unfolding mark_at
mark_takes end [] x fits e = absurd cc
mark_takes end (b ∷ bytes) x fits e =
    let a = bind_ok (fitting (place end (b ∷ bytes)) (mark_of b)) (λ m. Ok (m, bytes)) x e in
    let is = mark_is b a.0 (fitted (place end (b ∷ bytes)) (mark_of b) a.0 a.1) in
    subst (λ (y : Mark × List ℕ). Takes (b ∷ bytes) (mark_byte y.0 ∷ []) y.1) (ok_is (a.0, bytes) x a.2)
    (record { parts = ap (λ (n : ℕ). n ∷ bytes) is; rest_fits = IsBytes-rest b bytes fits })

-- ---- targets

some_if : {A : Type 0} (t : Bool) (x y : A) → cond t (Some x) None ≡ Some y → (t ≡ true) × (x ≡ y)
some_if true x y e = (refl, cc)
some_if false x y e = absurd cc

target_takes : (end : ℕ) (bytes : List ℕ) (x : List ℕ × List ℕ) → IsBytes bytes → target_at end bytes ≡ Ok x → Takes bytes (sized x.0) x.1 × (is_target x.0 ≡ true)
unfolding target_at
target_takes end bytes x fits e =
    let a = bind_ok (text_at end bytes) (λ text. fitting (start end text) (target_of text.0) >>= λ target. Ok (target, text.1)) x e in
    let b = bind_ok (fitting (start end a.0) (target_of a.0.0)) (λ target. Ok (target, a.0.1)) x a.2 in
    let f = some_if (is_target a.0.0) a.0.0 b.0 (fitted (start end a.0) (target_of a.0.0) b.0 b.1) in
    let t = text_takes end bytes a.0 fits a.1 in
    let made : List ℕ × List ℕ = (b.0, a.0.1) in
    subst (λ (y : List ℕ × List ℕ). Takes bytes (sized y.0) y.1 × (is_target y.0 ≡ true)) (ok_is made x b.2)
    (subst (λ (u : List ℕ). Takes bytes (sized u) a.0.1 × (is_target u ≡ true)) f.1 (t, f.0))

target_again : (end : ℕ) (text rest : List ℕ) → is_target text ≡ true → target_at end (sized text ++ rest) ≡ Ok (text, rest)
unfolding target_at
target_again end text rest h =
    let sides = first_so (nat_le 1 (length text) && nat_le (length text) 1024) (list_all is_text_byte text) h in
    let short : length text ≤ 1024 = leb-true (length text) 1024 (second_so (nat_le 1 (length text)) (nat_le (length text) 1024) sides) in
    rw (text_again end text rest (omega arith), h) refl

-- ---- rels

path_text : (names : List (List ℕ)) → is_path names ≡ true → rel_text names ≡ joined names
path_text [] h = absurd cc
path_text (name ∷ names) h = refl

rel_spelled : (text : List ℕ) (rel : List (List ℕ)) → rel_of text ≡ Some rel → (text ≡ rel_text rel) × (is_rel rel ≡ true)
rel_spelled text rel e = by (same_name text (46 ∷ [])) refl e
  where
    same : (names : List (List ℕ)) → Some names ≡ Some rel → names ≡ rel
    same names e = cc

    by : (t : Bool) → same_name text (46 ∷ []) ≡ t → cond t (Some []) (path_of text) ≡ Some rel → (text ≡ rel_text rel) × (is_rel rel ≡ true)
    by true h e = subst (λ (r : List (List ℕ)). (text ≡ rel_text r) × (is_rel r ≡ true)) (same [] e) (same_name-eq text (46 ∷ []) h, refl)
    by false h e =
        let p = some_if (is_path (pieces text)) (pieces text) rel e in
        let spelled : text ≡ rel_text (pieces text) = sym (path_text (pieces text) p.0 ∙ join_with_byte-slice_split 47 text) in
        subst (λ (r : List (List ℕ)). (text ≡ rel_text r) × (is_rel r ≡ true)) p.1
        (spelled, second_so (nat_le 1 (length (pieces text))) (is_rel (pieces text)) p.0)

rel_short : (rel : List (List ℕ)) → is_rel rel ≡ true → length (rel_text rel) ≤ 1024
rel_short [] h = omega arith
rel_short (name ∷ names) h =
    let sides = first_so (nat_le (length (name ∷ names)) 64 && nat_le (length (joined (name ∷ names))) 1024) (list_all is_name (name ∷ names)) h in
    leb-true (length (joined (name ∷ names))) 1024 (second_so (nat_le (length (name ∷ names)) 64) (nat_le (length (joined (name ∷ names))) 1024) sides)

pub rel_fits : (rel : List (List ℕ)) → is_rel rel ≡ true → length (rel_text rel) < 2 ^ 16
rel_fits rel h = omega (arith, rel_short rel h)

-- the steps of reading a rel
rel_found : (nodes : List Flat) (end : ℕ) (bytes : List ℕ) (x : List (List ℕ) × List ℕ) → rel_at nodes end bytes ≡ Ok x
    → (text : List ℕ) × (text_at end bytes ≡ Ok (text, x.1)) × (rel_of text ≡ Some x.0) × (may_come nodes x.0 ≡ true)
unfolding rel_at
rel_found nodes end bytes x e =
    let a = bind_ok (text_at end bytes) (λ text. fitting (start end text) (rel_of text.0) >>= λ rel. fitting (start end text) (coming nodes rel) >>= λ next. Ok (next, text.1)) x e in
    let b = bind_ok (fitting (start end a.0) (rel_of a.0.0)) (λ rel. fitting (start end a.0) (coming nodes rel) >>= λ next. Ok (next, a.0.1)) x a.2 in
    let c = bind_ok (fitting (start end a.0) (coming nodes b.0)) (λ next. Ok (next, a.0.1)) x b.2 in
    let f = some_if (may_come nodes b.0) b.0 c.0 (fitted (start end a.0) (coming nodes b.0) c.0 c.1) in
    let spells : rel_of a.0.0 ≡ Some b.0 = fitted (start end a.0) (rel_of a.0.0) b.0 b.1 in
    let made : List (List ℕ) × List ℕ = (c.0, a.0.1) in
    subst (λ (y : List (List ℕ) × List ℕ). (text : List ℕ) × (text_at end bytes ≡ Ok (text, y.1)) × (rel_of text ≡ Some y.0) × (may_come nodes y.0 ≡ true)) (ok_is made x c.2)
    (subst (λ (r : List (List ℕ)). (text : List ℕ) × (text_at end bytes ≡ Ok (text, a.0.1)) × (rel_of text ≡ Some r) × (may_come nodes r ≡ true)) f.1 (a.0.0, a.1, spells, f.0))

rel_takes : (nodes : List Flat) (end : ℕ) (bytes : List ℕ) (x : List (List ℕ) × List ℕ) → IsBytes bytes → rel_at nodes end bytes ≡ Ok x
    → Takes bytes (sized (rel_text x.0)) x.1 × (is_rel x.0 ≡ true)
rel_takes nodes end bytes x fits e =
    let f = rel_found nodes end bytes x e in
    let s = rel_spelled f.0 x.0 f.2 in
    (subst (λ (t : List ℕ). Takes bytes (sized t) x.1) s.0 (text_takes end bytes (f.0, x.1) fits f.1), s.1)

rel_again : (nodes : List Flat) (end : ℕ) (rel : List (List ℕ)) (rest : List ℕ) → is_rel rel ≡ true → may_come nodes rel ≡ true
    → rel_at nodes end (sized (rel_text rel) ++ rest) ≡ Ok (rel, rest)
unfolding rel_at
rel_again nodes end rel rest h may = rw (text_again end (rel_text rel) rest (rel_fits rel h), rel_read_back rel h, may) refl

-- ---- what a node is

mark_for : What → Mark
mark_for (what.File digest exec) = mark.File exec
mark_for what.Dir = mark.Dir
mark_for (what.Link target) = mark.Link

file_mark : (digest : Digest) (exec : Bool) → mark_byte (mark.File exec) ≡ kind_byte (what.File digest exec)
unfolding mark_byte
file_mark digest false = refl
file_mark digest true = refl

-- what reading took and found
record IsRead (m : Mark) (bytes : List ℕ) (x : What × List ℕ) : Type 0 where
  takes : Takes bytes (what_bytes x.0) x.1
  held : IsWhat x.0
  small : nat_le (what_size x.0) greatest_file ≡ true
  kind : mark_byte m ≡ kind_byte x.0

what_takes : (m : Mark) (end : ℕ) (bytes : List ℕ) (x : What × List ℕ) → IsBytes bytes → what_at m end bytes ≡ Ok x → IsRead m bytes x
unfolding what_at mark_byte
what_takes (mark.File exec) end bytes x fits e =
    let a = bind_ok (digest_at end bytes) (λ digest. Ok (what.File digest.0 exec, digest.1)) x e in
    let t = digest_takes end bytes a.0 fits a.1 in
    let made : What × List ℕ = (what.File a.0.0 exec, a.0.1) in
    subst (λ (y : What × List ℕ). IsRead (mark.File exec) bytes y) (ok_is made x a.2)
    (record { takes = t.0; held = t.1; small = le-leb a.0.0.size greatest_file t.2; kind = file_mark a.0.0 exec })
what_takes mark.Dir end bytes x fits e =
    let made : What × List ℕ = (what.Dir, bytes) in
    subst (λ (y : What × List ℕ). IsRead mark.Dir bytes y) (ok_is made x e)
    (record { takes = record { parts = refl; rest_fits = fits }; held = tt; small = refl; kind = refl })
what_takes mark.Link end bytes x fits e =
    let a = bind_ok (target_at end bytes) (λ target. Ok (what.Link target.0, target.1)) x e in
    let t = target_takes end bytes a.0 fits a.1 in
    let made : What × List ℕ = (what.Link a.0.0, a.0.1) in
    subst (λ (y : What × List ℕ). IsRead mark.Link bytes y) (ok_is made x a.2) (record { takes = t.0; held = t.1; small = refl; kind = refl })

what_again : (w : What) (end : ℕ) (rest : List ℕ) → IsWhat w → nat_le (what_size w) greatest_file ≡ true → what_at (mark_for w) end (what_bytes w ++ rest) ≡ Ok (w, rest)
unfolding what_at mark_for
what_again (what.File digest exec) end rest held small = rw (digest_again end digest rest held (leb-true digest.size greatest_file small)) refl
what_again what.Dir end rest held small = refl
what_again (what.Link target) end rest held small = rw (target_again end target rest held) refl

mark_again : (w : What) (end : ℕ) (rest : List ℕ) → mark_at end (kind_byte w ∷ rest) ≡ Ok (mark_for w, rest)
unfolding mark_at mark_for
mark_again (what.File digest false) end rest = refl
mark_again (what.File digest true) end rest = refl
mark_again what.Dir end rest = refl
mark_again (what.Link target) end rest = refl

-- ---- nodes

-- what reading a node took and found
record IsNodeRead (nodes : List Flat) (bytes : List ℕ) (x : Flat × List ℕ) : Type 0 where
  takes : Takes bytes (node_bytes x.0) x.1
  held : IsNode x.0
  small : is_small x.0 ≡ true
  rel : has_rel x.0 ≡ true
  comes : may_come nodes x.0.rel ≡ true

-- the steps of reading a node
record IsNodeFound (nodes : List Flat) (end : ℕ) (bytes : List ℕ) (x : Flat × List ℕ) : Type 0 where
  mark : Mark × List ℕ
  rel : List (List ℕ) × List ℕ
  w : What × List ℕ
  marked : mark_at end bytes ≡ Ok mark
  placed : rel_at nodes end mark.1 ≡ Ok rel
  told : what_at mark.0 end rel.1 ≡ Ok w
  made : (record { rel = rel.0; what = w.0 }, w.1) ≡ x

node_found : (nodes : List Flat) (end : ℕ) (bytes : List ℕ) (x : Flat × List ℕ) → node_at nodes end bytes ≡ Ok x → IsNodeFound nodes end bytes x
unfolding node_at
node_found nodes end bytes x e =
    let a = bind_ok (mark_at end bytes) (λ m. rel_at nodes end m.1 >>= λ rel. what_at m.0 end rel.1 >>= λ w. Ok (record { rel = rel.0; what = w.0 }, w.1)) x e in
    let b = bind_ok (rel_at nodes end a.0.1) (λ rel. what_at a.0.0 end rel.1 >>= λ w. Ok (record { rel = rel.0; what = w.0 }, w.1)) x a.2 in
    let c = bind_ok (what_at a.0.0 end b.0.1) (λ w. Ok (record { rel = b.0.0; what = w.0 }, w.1)) x b.2 in
    let made : Flat × List ℕ = (record { rel = b.0.0; what = c.0.0 }, c.0.1) in
    record { mark = a.0; rel = b.0; w = c.0; marked = a.1; placed = b.1; told = c.1; made = ok_is made x c.2 }

pub node_comes : (nodes : List Flat) (end : ℕ) (bytes : List ℕ) (x : Flat × List ℕ) → node_at nodes end bytes ≡ Ok x → may_come nodes x.0.rel ≡ true
node_comes nodes end bytes x e =
    let f = node_found nodes end bytes x e in
    subst (λ (y : Flat × List ℕ). may_come nodes y.0.rel ≡ true) f.made (rel_found nodes end f.mark.1 f.rel f.placed).3

node_takes : (nodes : List Flat) (end : ℕ) (bytes : List ℕ) (x : Flat × List ℕ) → IsBytes bytes → node_at nodes end bytes ≡ Ok x → IsNodeRead nodes bytes x
node_takes nodes end bytes x fits e =
    let f = node_found nodes end bytes x e in
    let t0 = mark_takes end bytes f.mark fits f.marked in
    let t1 = rel_takes nodes end f.mark.1 f.rel t0.rest_fits f.placed in
    let t2 = what_takes f.mark.0 end f.rel.1 f.w t1.0.rest_fits f.told in
    let inner = Takes-then f.mark.1 (sized (rel_text f.rel.0)) f.rel.1 (what_bytes f.w.0) f.w.1 t1.0 t2.takes in
    let whole = Takes-then bytes (mark_byte f.mark.0 ∷ []) f.mark.1 (sized (rel_text f.rel.0) ++ what_bytes f.w.0) f.w.1 t0 inner in
    let spelled : Takes bytes (kind_byte f.w.0 ∷ (sized (rel_text f.rel.0) ++ what_bytes f.w.0)) f.w.1 =
    subst (λ (k : ℕ). Takes bytes (k ∷ (sized (rel_text f.rel.0) ++ what_bytes f.w.0)) f.w.1) t2.kind whole in
    subst (λ (y : Flat × List ℕ). IsNodeRead nodes bytes y) f.made
    (record { takes = spelled; held = t2.held; small = t2.small; rel = t1.1; comes = (rel_found nodes end f.mark.1 f.rel f.placed).3 })

node_again : (nodes : List Flat) (end : ℕ) (node : Flat) (rest : List ℕ) → IsNode node → is_small node ≡ true → has_rel node ≡ true → may_come nodes node.rel ≡ true
    → node_at nodes end (node_bytes node ++ rest) ≡ Ok (node, rest)
unfolding node_at
node_again nodes end node rest held small rel may =
    let split : node_bytes node ++ rest ≡ kind_byte node.what ∷ (sized (rel_text node.rel) ++ (what_bytes node.what ++ rest)) =
    ap (λ (t : List ℕ). kind_byte node.what ∷ t) (append_assoc (sized (rel_text node.rel)) (what_bytes node.what) rest) in
    rw (
      split,
      mark_again node.what end (sized (rel_text node.rel) ++ (what_bytes node.what ++ rest)),
      rel_again nodes end node.rel (what_bytes node.what ++ rest) rel may,
      what_again node.what end rest held small,
    ) refl

-- ---- lists of nodes

-- what reading nodes took and found, behind those that were read before
pub record Grown (count : ℕ) (nodes all : List Flat) (bytes rest : List ℕ) : Type 0 where
  pub more : List Flat
  pub whole : all ≡ nodes ++ more
  pub takes : Takes bytes (flat_map node_bytes more) rest
  pub many : length more ≡ count
  pub begun : is_begun nodes ≡ true → is_begun all ≡ true
  pub held : All IsNode more
  pub small : list_all is_small more ≡ true
  pub rels : list_all has_rel more ≡ true

nodes_take : (count : ℕ) (nodes : List Flat) (end : ℕ) (bytes : List ℕ) (x : List Flat × List ℕ) → IsBytes bytes → nodes_at count nodes end bytes ≡ Ok x
    → Grown count nodes x.0 bytes x.1
unfolding nodes_at
nodes_take zero nodes end bytes x fits e =
    let made : List Flat × List ℕ = (nodes, bytes) in
    subst (λ (y : List Flat × List ℕ). Grown 0 nodes y.0 bytes y.1) (ok_is made x e)
    (record {
      more = [];
      whole = sym (append-nil nodes);
      takes = record { parts = refl; rest_fits = fits };
      many = refl;
      begun = λ h. h;
      held = All-nil IsNode;
      small = refl;
      rels = refl;
    })
nodes_take (suc count) nodes end bytes x fits e =
    let a = bind_ok (node_at nodes end bytes) (λ node. nodes_at count (nodes ++ node.0 ∷ []) end node.1) x e in
    let t = node_takes nodes end bytes a.0 fits a.1 in
    let g = nodes_take count (nodes ++ a.0.0 ∷ []) end a.0.1 x t.takes.rest_fits a.2 in
    let both = Takes-then bytes (node_bytes a.0.0) a.0.1 (flat_map node_bytes g.more) x.1 t.takes g.takes in
    record {
      more = a.0.0 ∷ g.more;
      whole = g.whole ∙ append_assoc nodes (a.0.0 ∷ []) g.more;
      takes = rw flat_map-cons both;
      many = ap suc g.many;
      begun = λ h. g.begun (begun_more nodes a.0.0 h t.comes);
      held = All-cons IsNode a.0.0 g.more t.held g.held;
      small = and_from (is_small a.0.0) (list_all is_small g.more) t.small g.small;
      rels = and_from (has_rel a.0.0) (list_all has_rel g.more) t.rel g.rels;
    }

nodes_again : (more nodes all : List Flat) (end : ℕ) (rest : List ℕ) → all ≡ nodes ++ more → ascends all ≡ true → list_all (has_parent all) more ≡ true
    → All IsNode more → list_all is_small more ≡ true → list_all has_rel more ≡ true → is_begun nodes ≡ true
    → nodes_at (length more) nodes end (flat_map node_bytes more ++ rest) ≡ Ok (all, rest)
unfolding nodes_at
nodes_again [] nodes all end rest whole up has held small rels begun =
    ap (λ (l : List Flat). Ok (l, rest)) (sym (whole ∙ append-nil nodes))
nodes_again (node ∷ more) [] all end rest whole up has held small rels begun = absurd cc
nodes_again (node ∷ more) (root ∷ front) all end rest whole up has held small rels begun =
    let nodes = root ∷ front in
    let regrouped : flat_map node_bytes (node ∷ more) ++ rest ≡ node_bytes node ++ (flat_map node_bytes more ++ rest) =
    ap (λ (x : List ℕ). x ++ rest) (flat_map-cons node_bytes node more) ∙ append_assoc (node_bytes node) (flat_map node_bytes more) rest in
    let parent = first_so (has_parent all node) (list_all (has_parent all) more) has in
    let may = comes_next root front node more begun (ap ascends (sym whole) ∙ up) (ap (λ (t : List Flat). has_parent t node) (sym whole) ∙ parent) in
    let grown = nodes_again more (nodes ++ node ∷ []) all end rest (whole ∙ sym (append_assoc nodes (node ∷ []) more)) up
    (second_so (has_parent all node) (list_all (has_parent all) more) has) (All-tail IsNode node more held)
    (second_so (is_small node) (list_all is_small more) small) (second_so (has_rel node) (list_all has_rel more) rels) (begun_more nodes node begun may) in
    ap (nodes_at (suc (length more)) nodes end) regrouped
    ∙ rw (node_again nodes end node (flat_map node_bytes more ++ rest) (All-head IsNode node more held) (first_so (is_small node) (list_all is_small more) small)
    (first_so (has_rel node) (list_all has_rel more) rels) may) grown

-- ---- the loop that reads them

pub goes_on : (count i end : ℕ) (nodes : List Flat) (bytes : List ℕ) (node : Flat) (after : List ℕ) (total : Field (List Flat)) → i < count
    → node_at nodes end bytes ≡ Ok (node, after) → nodes_at (count - i) nodes end bytes ≡ total → nodes_at (count - (i + 1)) (nodes ++ node ∷ []) end after ≡ total
unfolding nodes_at
goes_on count i end nodes bytes node after total lt h so_far =
    let k : count - i ≡ suc (count - (i + 1)) = omega arith in
    let one : nodes_at (count - i) nodes end bytes ≡ nodes_at (count - (i + 1)) (nodes ++ node ∷ []) end after = rw (k, h) refl in
    sym one ∙ so_far

pub stops : (why : RowRefusal) (count i end : ℕ) (nodes : List Flat) (bytes : List ℕ) (total : Field (List Flat)) → i < count
    → Fails why (node_at nodes end bytes) → nodes_at (count - i) nodes end bytes ≡ total → Fails why total
unfolding nodes_at
stops refusal.NoMemory count i end nodes bytes total lt h so_far = tt
stops (refusal.Bad at) count i end nodes bytes total lt h so_far =
    let k : count - i ≡ suc (count - (i + 1)) = omega arith in
    let one : nodes_at (count - i) nodes end bytes ≡ Err at = rw (k, h) refl in
    sym so_far ∙ one

pub is_done : (count i end : ℕ) (nodes : List Flat) (bytes : List ℕ) (total : Field (List Flat)) → count ≤ i
    → nodes_at (count - i) nodes end bytes ≡ total → total ≡ Ok (nodes, bytes)
unfolding nodes_at
is_done count i end nodes bytes total le so_far =
    let k : count - i ≡ 0 = omega arith in
    let one : nodes_at (count - i) nodes end bytes ≡ Ok (nodes, bytes) = rw k refl in
    sym so_far ∙ one

-- ---- trees

at_root : What → Flat
at_root w = record { rel = []; what = w }

-- what reading a root took and found
record IsRootRead (m : Mark) (bytes : List ℕ) (x : List Flat × List ℕ) : Type 0 where
  root : Flat
  others : List Flat
  whole : x.0 ≡ root ∷ others
  takes : Takes bytes (root_bytes root.what others) x.1
  kind : mark_byte m ≡ kind_byte root.what
  tree : IsTree (root ∷ others)
  held : All IsNode (root ∷ others)

file_is_tree : (digest : Digest) (exec : Bool) → digest.size ≤ greatest_file → IsTree (rooted (what.File digest exec))
file_is_tree digest exec small = record {
  root = refl;
  few = omega arith;
  order = refl;
  parents = refl;
  small = and_from (nat_le digest.size greatest_file) true (le-leb digest.size greatest_file small) refl;
  rels = refl;
}

file_takes : (exec : Bool) (end : ℕ) (bytes : List ℕ) (x : List Flat × List ℕ) → IsBytes bytes → file_at exec end bytes ≡ Ok x → IsRootRead (mark.File exec) bytes x
unfolding file_at at_root
file_takes exec end bytes x fits e =
    let a = bind_ok (digest_at end bytes) (λ digest. Ok (rooted (what.File digest.0 exec), digest.1)) x e in
    let t = digest_takes end bytes a.0 fits a.1 in
    let made : List Flat × List ℕ = (rooted (what.File a.0.0 exec), a.0.1) in
    subst (λ (y : List Flat × List ℕ). IsRootRead (mark.File exec) bytes y) (ok_is made x a.2)
    (record {
      root = at_root (what.File a.0.0 exec);
      others = [];
      whole = refl;
      takes = t.0;
      kind = file_mark a.0.0 exec;
      tree = file_is_tree a.0.0 exec t.2;
      held = All-cons IsNode (at_root (what.File a.0.0 exec)) [] t.1 (All-nil IsNode);
    })

dir_takes : (end : ℕ) (bytes : List ℕ) (x : List Flat × List ℕ) → IsBytes bytes → dir_at end bytes ≡ Ok x → IsRootRead mark.Dir bytes x
unfolding dir_at at_root mark_byte
dir_takes end bytes x fits e =
    let a = bind_ok (number_within 9999 w32 end bytes) (λ count. nodes_at count.0 (rooted what.Dir) end count.1) x e in
    let t = within_takes 9999 w32 (2 ^ 32) wide32 end bytes a.0 fits a.1 in
    let g = nodes_take a.0.0 (rooted what.Dir) end a.0.1 x t.0.rest_fits a.2 in
    let both = Takes-then bytes (to_be_bytes w32 a.0.0) a.0.1 (flat_map node_bytes g.more) x.1 t.0 g.takes in
    record {
      root = at_root what.Dir;
      others = g.more;
      whole = g.whole;
      takes = subst (λ (k : ℕ). Takes bytes (to_be_bytes w32 k ++ flat_map node_bytes g.more) x.1) (sym g.many) both;
      kind = refl;
      tree = begun_tree (at_root what.Dir ∷ g.more) (ap is_begun (sym g.whole) ∙ g.begun refl) (omega (arith, g.many, t.1)) g.small g.rels;
      held = All-cons IsNode (at_root what.Dir) g.more tt g.held;
    }

root_takes : (m : Mark) (at end : ℕ) (bytes : List ℕ) (x : List Flat × List ℕ) → IsBytes bytes → root_at m at end bytes ≡ Ok x → IsRootRead m bytes x
root_takes (mark.File exec) at end bytes x fits e = file_takes exec end bytes x fits e
root_takes mark.Dir at end bytes x fits e = dir_takes end bytes x fits e
root_takes mark.Link at end bytes x fits e = absurd cc

pub tree_takes : (end : ℕ) (bytes : List ℕ) (x : List Flat × List ℕ) → IsBytes bytes → tree_at end bytes ≡ Ok x
    → Takes bytes (tree_bytes x.0) x.1 × IsTree x.0 × All IsNode x.0
unfolding tree_at
tree_takes end bytes x fits e =
    let a = bind_ok (mark_at end bytes) (λ m. root_at m.0 (place end bytes) end m.1) x e in
    let t = mark_takes end bytes a.0 fits a.1 in
    let r = root_takes a.0.0 (place end bytes) end a.0.1 x t.rest_fits a.2 in
    let both = Takes-then bytes (mark_byte a.0.0 ∷ []) a.0.1 (root_bytes r.root.what r.others) x.1 t r.takes in
    let spelled : Takes bytes (tree_bytes (r.root ∷ r.others)) x.1 = subst (λ (k : ℕ). Takes bytes (k ∷ root_bytes r.root.what r.others) x.1) r.kind both in
    subst (λ (l : List Flat). Takes bytes (tree_bytes l) x.1 × IsTree l × All IsNode l) (sym r.whole) (spelled, r.tree, r.held)

-- below a root that is no directory nothing stands
alone : (w : What) (others : List Flat) → is_dir w ≡ false → is_linked (record { rel = []; what = w }) others ≡ true → others ≡ []
alone w [] leaf linked = refl
alone w (node ∷ others) leaf linked =
    let here = second_so (not (is_root node)) (follows node.rel (record { rel = []; what = w }))
    (first_so (not (is_root node) && follows node.rel (record { rel = []; what = w })) (is_linked node others) linked) in
    let none = leaf_follows node.rel w leaf in
    absurd (let both : true ≡ false = sym here ∙ none in cc)

root_again : (w : What) (others : List Flat) (end : ℕ) (rest : List ℕ) → IsTree (record { rel = []; what = w } ∷ others) → All IsNode (record { rel = []; what = w } ∷ others)
    → root_at (mark_for w) (place end (kind_byte w ∷ (root_bytes w others ++ rest))) end (root_bytes w others ++ rest) ≡ Ok (record { rel = []; what = w } ∷ others, rest)
unfolding mark_for file_at dir_at
root_again (what.File digest exec) others end rest tree held =
    let root : Flat = record { rel = []; what = what.File digest exec } in
    let linked = no_refusal_linked (root ∷ others) root others refl (is_tree_no_refusal (root ∷ others) tree) in
    let none = alone (what.File digest exec) others refl linked in
    let small = leb-true digest.size greatest_file (first_so (is_small root) (list_all is_small others) tree.small) in
    rw (digest_again end digest rest (All-head IsNode root others held) small) (ap (λ (l : List Flat). Ok (root ∷ l, rest)) (sym none))
root_again what.Dir others end rest tree held =
    let root : Flat = record { rel = []; what = what.Dir } in
    let few : length others ≤ 9999 = omega (arith, tree.few) in
    rw (within_again 9999 w32 (2 ^ 32) wide32 end (length others) (flat_map node_bytes others ++ rest) (omega arith) few)
    (nodes_again others (root ∷ []) (root ∷ others) end rest refl tree.order
    (second_so (has_parent (root ∷ others) root) (list_all (has_parent (root ∷ others)) others) tree.parents) (All-tail IsNode root others held)
    (second_so (is_small root) (list_all is_small others) tree.small) (second_so (has_rel root) (list_all has_rel others) tree.rels) refl)
root_again (what.Link target) others end rest tree held = absurd (let no_link : false ≡ true = tree.root in cc)

pub tree_again : (tree : List Flat) (end : ℕ) (rest : List ℕ) → IsTree tree → All IsNode tree → tree_at end (tree_bytes tree ++ rest) ≡ Ok (tree, rest)
unfolding tree_at
tree_again [] end rest h held = absurd (let no_root : false ≡ true = h.root in cc)
tree_again (root ∷ others) end rest h held =
    let at : [] ≡ root.rel = same_names-eq [] root.rel (first_so (is_root root) (not (is_link root.what)) h.root) in
    by root.rel at h held
  where
    by : (rel : List (List ℕ)) → [] ≡ rel → IsTree (record { rel = rel; what = root.what } ∷ others) → All IsNode (record { rel = rel; what = root.what } ∷ others)
        → tree_at end (tree_bytes (record { rel = rel; what = root.what } ∷ others) ++ rest) ≡ Ok (record { rel = rel; what = root.what } ∷ others, rest)
    by rel at = subst (λ (r : List (List ℕ)). IsTree (record { rel = r; what = root.what } ∷ others) → All IsNode (record { rel = r; what = root.what } ∷ others)
        → tree_at end (tree_bytes (record { rel = r; what = root.what } ∷ others) ++ rest) ≡ Ok (record { rel = r; what = root.what } ∷ others, rest)) at
        (λ t n. rw (mark_again root.what end (root_bytes root.what others ++ rest)) (root_again root.what others end rest t n))
