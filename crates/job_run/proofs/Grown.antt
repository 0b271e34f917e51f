-- A part that is given a tree node by node, and a file of it piece by piece.
use Rattle.std.proofs.Common.{◌≡◌, ◌==◌, ℕ, Bool, true, false, cond, if◌then◌else◌, List, [], ◌∷◌, ◌++◌, length, Option, Some, None, refl, sym, ap, ◌∙◌, subst}
use Rattle.std.proofs.Math.Dec.{eqb-suc-zero}
use Rattle.std.specs.Cmp.{first_so, second_so}
use Rattle.std.specs.List.{find, list_all}
use Rattle.std.specs.Option.{ForSome, option_map}
use Rattle.std.specs.Ordering.{is_lt}
use Rattle.mat_digest.specs.Digests.{digest_of}
use Rattle.mat_digest.specs.declared.digest.Digest.{Digest}
use Rattle.mat_path.specs.Names.{path_cmp, same_names}
use Rattle.mat_path.proofs.PathLemmas.{path_cmp-refl}
use Rattle.mat_path.proofs.SameNames.{same_names-eq, same_names-refl}
use Rattle.mat_tree.specs.Parts.{HasTree, Node, Part, declared_by, file, with_node}
use Rattle.mat_tree.specs.Trees.{ascends, is_after, is_at, what_at, what_of}
use Rattle.mat_tree.specs.declared.flat.Flat.{Flat}
use Rattle.mat_tree.specs.declared.flat.What.{What}
use Rattle.mat_tree.specs.declared.flat.What.TheVariants as what
use Rattle.region_port.specs.Calls.{appended, is_file, wiped, with_more}
use Rattle.job_run.specs.Growing.{Grows, HasElsewhere, HasFile, HasNodes, file_node, with_piece}

-- ---- lists of nodes

-- a node at the end, seen from another rel
other_last : (nodes : List Flat) (node : Flat) (rel : List (List ℕ)) → same_names node.rel rel ≡ false → what_at (nodes ++ node ∷ []) rel ≡ what_at nodes rel
other_last [] node rel off = ap (λ b. option_map what_of (cond b (Some node) None)) off
other_last (one ∷ nodes) node rel off =
    elim (is_at rel one) as
    (λ b. option_map what_of (cond b (Some one) (find (is_at rel) (nodes ++ node ∷ []))) ≡ option_map what_of (cond b (Some one) (find (is_at rel) nodes)))
    [ true ↦ refl | false ↦ other_last nodes node rel off ]

-- a rel less than another isn't that one
less_apart : (p q : List (List ℕ)) → is_lt (path_cmp p q) ≡ true → same_names p q ≡ false
less_apart p q lt = by (same_names p q) refl
  where
    by : (b : Bool) → same_names p q ≡ b → b ≡ false
    by false is = refl
    by true is =
        let same : p ≡ q = same_names-eq p q is in
        let equal : is_lt (path_cmp p p) ≡ true = subst (λ (r : List (List ℕ)). is_lt (path_cmp p r) ≡ true) (sym same) lt in
        let none : is_lt (path_cmp p p) ≡ false = ap is_lt (path_cmp-refl p) in cc

-- nodes that ascend, seen from the rel of one of them
at_last : (nodes : List Flat) (node : Flat) (rest : List Flat) → ascends (nodes ++ node ∷ rest) ≡ true →
    what_at (nodes ++ node ∷ []) node.rel ≡ Some node.what
at_last [] node rest up = ap (λ b. option_map what_of (cond b (Some node) None)) (same_names-refl node.rel)
at_last (one ∷ nodes) node rest up =
    ap (λ b. option_map what_of (cond b (Some one) (find (is_at node.rel) (nodes ++ node ∷ []))))
    (less_apart one.rel node.rel (among nodes (first_so (list_all (is_after one.rel) (nodes ++ node ∷ rest)) (ascends (nodes ++ node ∷ rest)) up)))
    ∙ at_last nodes node rest (second_so (list_all (is_after one.rel) (nodes ++ node ∷ rest)) (ascends (nodes ++ node ∷ rest)) up)
  where
    among : (xs : List Flat) → list_all (is_after one.rel) (xs ++ node ∷ rest) ≡ true → is_after one.rel node ≡ true
    among [] all = first_so (is_after one.rel node) (list_all (is_after one.rel) rest) all
    among (x ∷ xs) all = among xs (second_so (is_after one.rel x) (list_all (is_after one.rel) (xs ++ node ∷ rest)) all)

-- a test that all nodes pass is passed by each
pub passes : (test : Flat → Bool) (nodes : List Flat) (node : Flat) (rest : List Flat) → list_all test (nodes ++ node ∷ rest) ≡ true → test node ≡ true
passes test [] node rest all = first_so (test node) (list_all test rest) all
passes test (x ∷ nodes) node rest all = passes test nodes node rest (second_so (test x) (list_all test (nodes ++ node ∷ rest)) all)

-- ---- nodes that are put

-- a part with one node more
placed : (nodes : List Flat) (node : Flat) (rest : List Flat) (part : Part) → ascends (nodes ++ node ∷ rest) ≡ true →
    HasElsewhere node.rel nodes part → option_map declared_by (part node.rel) ≡ Some node.what → HasTree part (nodes ++ node ∷ [])
placed nodes node rest part up elsewhere here = λ place. by place (same_names place node.rel) refl
  where
    flip : (p q : List (List ℕ)) → same_names p q ≡ false → same_names q p ≡ false
    flip p q off = turn (same_names q p) refl
      where
        turn : (b : Bool) → same_names q p ≡ b → b ≡ false
        turn false is = refl
        turn true is =
            let same : q ≡ p = same_names-eq q p is in
            let whole : same_names p p ≡ false = subst (λ (r : List (List ℕ)). same_names p r ≡ false) same off in
            let yes_so : same_names p p ≡ true = same_names-refl p in cc

    by : (place : List (List ℕ)) (b : Bool) → same_names place node.rel ≡ b → option_map declared_by (part place) ≡ what_at (nodes ++ node ∷ []) place
    by place true is =
        let same : place ≡ node.rel = same_names-eq place node.rel is in
        subst (λ (p : List (List ℕ)). option_map declared_by (part p) ≡ what_at (nodes ++ node ∷ []) p) (sym same)
        (here ∙ sym (at_last nodes node rest up))
    by place false off = elsewhere place off ∙ sym (other_last nodes node place (flip place node.rel off))

-- a part that has some nodes has them elsewhere too
pub all_elsewhere : (rel : List (List ℕ)) (nodes : List Flat) (part : Option Part) → HasNodes nodes part → ForSome part (HasElsewhere rel nodes)
all_elsewhere rel nodes part has = λ told is place off. has told is place

-- what is told after a change was told before it
told_before : (change : Part → Part) (old new : Option Part) (told : Part) → new ≡ option_map change old → new ≡ Some told →
    (before : Part) × (old ≡ Some before) × (told ≡ change before)
told_before change None new told now is = let none : None ≡ Some told = sym now ∙ is in cc
told_before change (Some before) new told now is =
    let same : Some (change before) ≡ Some told = sym now ∙ is in (before, refl, cc)

-- a node that is put
node_elsewhere : (rel : List (List ℕ)) (node : Node) (nodes : List Flat) (part : Part) → HasElsewhere rel nodes part → HasElsewhere rel nodes (with_node rel node part)
node_elsewhere rel node nodes part has = λ place off. ap (λ b. option_map declared_by (cond b (Some node) (part place))) off ∙ has place off

node_here : (rel : List (List ℕ)) (node : Node) (part : Part) → with_node rel node part rel ≡ Some node
node_here rel node part = ap (λ b. cond b (Some node) (part rel)) (same_names-refl rel)

pub node_placed : (nodes : List Flat) (one : Flat) (rest : List Flat) (node : Node) (old new : Option Part) → ascends (nodes ++ one ∷ rest) ≡ true →
    declared_by node ≡ one.what → HasNodes nodes old → new ≡ option_map (with_node one.rel node) old → HasNodes (nodes ++ one ∷ []) new
node_placed nodes one rest node old new up declares has now = λ told is.
    let b = told_before (with_node one.rel node) old new told now is in
    let elsewhere : HasElsewhere one.rel nodes b.0 = λ place off. has b.0 b.1 place in
    subst (λ (p : Part). HasTree p (nodes ++ one ∷ [])) (sym b.2)
    (placed nodes one rest (with_node one.rel node b.0) up (node_elsewhere one.rel node nodes b.0 elsewhere)
    (ap (option_map declared_by) (node_here one.rel node b.0) ∙ ap (λ (w : What). Some w) declares))

-- nothing is there once a part was wiped
pub wiped_nodes : (old new : Option Part) → new ≡ option_map wiped old → HasNodes [] new
wiped_nodes old new now = λ told is place.
    let b = told_before wiped old new told now is in
    ap (λ (p : Part). option_map declared_by (p place)) b.2

-- ---- a file that is put in pieces

-- no byte of a file was put yet
pub grows_none : (rel : List (List ℕ)) (exec : Bool) (nodes : List Flat) (part : Option Part) → ForSome part (HasElsewhere rel nodes) → Grows rel exec nodes [] part
grows_none rel exec nodes part has = record { elsewhere = has; file = λ (off : true ≡ false). cc }

-- where some bytes were put, a file is there
pub grows_is_file : (rel : List (List ℕ)) (exec : Bool) (nodes : List Flat) (put : List ℕ) (at : ℕ) (part : Option Part) → Grows rel exec nodes put part →
    at ≡ length put → (at == 0) ≡ false → ForSome part (λ told. is_file (told rel) ≡ true)
grows_is_file rel exec nodes put at part grows same some = λ told is.
    ap is_file (grows.file (ap (λ (n : ℕ). n == 0) (sym same) ∙ some) told is)

-- what a piece leaves elsewhere
piece_elsewhere : (rel : List (List ℕ)) (exec : Bool) (at : ℕ) (piece : List ℕ) (nodes : List Flat) (part : Part) → HasElsewhere rel nodes part →
    HasElsewhere rel nodes (with_piece rel exec at piece part)
piece_elsewhere rel exec at piece nodes part has =
    elim (at == 0) as (λ b. HasElsewhere rel nodes (if b then with_node rel (file piece exec) part else appended rel piece part)) [
      | true ↦ node_elsewhere rel (file piece exec) nodes part has
      | false ↦ λ place off. ap (λ b. option_map declared_by (if b then option_map (with_more piece) (part rel) else part place)) off ∙ has place off
    ]

-- what a piece makes of the file
piece_here : (rel : List (List ℕ)) (exec : Bool) (at : ℕ) (put piece : List ℕ) (part : Part) → at ≡ length put →
    ((length put == 0) ≡ false → HasFile rel exec put part) → HasFile rel exec (put ++ piece) (with_piece rel exec at piece part)
piece_here rel exec at put piece part same has =
    subst (λ (n : ℕ). HasFile rel exec (put ++ piece) (with_piece rel exec n piece part)) (sym same) (by put has)
  where
    by : (put : List ℕ) → ((length put == 0) ≡ false → HasFile rel exec put part) →
        HasFile rel exec (put ++ piece) (with_piece rel exec (length put) piece part)
    by [] has = node_here rel (file piece exec) part
    by (b ∷ put) has =
        ap (λ t. (if t then with_node rel (file piece exec) part else appended rel piece part) rel) (eqb-suc-zero (length put))
        ∙ ap (λ t. if t then option_map (with_more piece) (part rel) else part rel) (same_names-refl rel)
        ∙ ap (option_map (with_more piece)) (has (eqb-suc-zero (length put)))

-- a piece that was put behind the others
pub grows_on : (rel : List (List ℕ)) (exec : Bool) (nodes : List Flat) (put piece : List ℕ) (at : ℕ) (old new : Option Part) → Grows rel exec nodes put old →
    at ≡ length put → new ≡ option_map (with_piece rel exec at piece) old →
    ForSome new (HasElsewhere rel nodes) × ForSome new (HasFile rel exec (put ++ piece))
grows_on rel exec nodes put piece at old new grows same now = (
  (λ told is.
      let b = told_before (with_piece rel exec at piece) old new told now is in
      subst (λ (p : Part). HasElsewhere rel nodes p) (sym b.2) (piece_elsewhere rel exec at piece nodes b.0 (grows.elsewhere b.0 b.1))),
  (λ told is.
      let b = told_before (with_piece rel exec at piece) old new told now is in
      subst (λ (p : Part). HasFile rel exec (put ++ piece) p) (sym b.2)
      (piece_here rel exec at put piece b.0 same (λ some. grows.file some b.0 b.1))),
)

pub grown : (rel : List (List ℕ)) (exec : Bool) (nodes : List Flat) (put piece : List ℕ) (at : ℕ) (old new : Option Part) → Grows rel exec nodes put old →
    at ≡ length put → new ≡ option_map (with_piece rel exec at piece) old → Grows rel exec nodes (put ++ piece) new
grown rel exec nodes put piece at old new grows same now =
    let both = grows_on rel exec nodes put piece at old new grows same now in
    record { elsewhere = both.0; file = λ some. both.1 }

-- a file whose last piece was put
pub file_placed : (rel : List (List ℕ)) (digest : Digest) (exec : Bool) (nodes rest : List Flat) (put piece : List ℕ) (at : ℕ) (old new : Option Part) →
    ascends (nodes ++ file_node rel digest exec ∷ rest) ≡ true → Grows rel exec nodes put old → at ≡ length put →
    new ≡ option_map (with_piece rel exec at piece) old → digest_of (put ++ piece) ≡ digest → HasNodes (nodes ++ file_node rel digest exec ∷ []) new
file_placed rel digest exec nodes rest put piece at old new up grows same now right = λ told is.
    let both = grows_on rel exec nodes put piece at old new grows same now in
    placed nodes (file_node rel digest exec) rest told up (both.0 told is)
    (ap (option_map declared_by) (both.1 told is) ∙ ap (λ (d : Digest). Some (what.File d exec)) right)
