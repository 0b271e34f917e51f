-- The open tickets and the numbers by path, where tickets come and are answered.
use Rattle.std.proofs.Common.{◌≡◌, ◌+◌, ℕ, suc, nat_lt, Bool, true, false, not, ◌&&◌, cond, List, [], ◌∷◌, ◌++◌, map, refl, ◌∙◌, sym, ap, arith, Some, None}
use Rattle.std.proofs.lemmas.Bool.{and_from, and_parts, leb-true, ne_eqb}
use Rattle.std.proofs.lemmas.List.{map-append}
use Rattle.std.proofs.lemmas.List.Elements.{filter-append}
use Rattle.std.proofs.lemmas.List.Sums.{sum_by-append, sum_by-cons}
use Rattle.std.specs.List.{filter, find, list_all, sum_by}
use Rattle.std.specs.Option.{option_map}
use Rattle.mat_path.specs.Names.{same_names}
use Rattle.mat_path.proofs.SameNames.{same_names-eq, same_names-refl, same_names-sym}
use Rattle.mat_model.specs.declared.book.Ticket.{Ticket}
use Rattle.mat_model.specs.Books.{number_of}
use Rattle.mat_model.specs.Tickets.{is_open}
use Rattle.path_trie.specs.declared.entry.Entry.{Entry}
use Rattle.path_trie.specs.Entries.{ascends, is_at, is_less, value_at, value_of}
use Rattle.path_trie.proofs.Values.{apart_behind}
use Rattle.ticket_book.specs.Asked.{is_due}
use Rattle.ticket_book.specs.ByPath.{IsIndexed, all_numbers, asks_at, asks_so, due_numbers, is_other, list_or_empty, some_list}

-- whether a ticket isn't open, or doesn't pass a test
abbrev is_left : (Ticket → Bool) → Ticket → Bool
is_left test ticket = not (is_due test ticket)

-- ---- lists

kept_filter : {X : Type 0} (p t : X → Bool) → ((x : X) → p x ≡ true → t x ≡ true) → (xs : List X) → filter p (filter t xs) ≡ filter p xs
kept_filter p t f [] = refl
kept_filter {X} p t f (x ∷ xs) = by (p x) (t x) (f x) refl (kept_filter p t f xs)
  where
    by : (a b : Bool) → (a ≡ true → b ≡ true) → p x ≡ a → filter p (filter t xs) ≡ filter p xs
        → filter p (cond b (x ∷ filter t xs) (filter t xs)) ≡ cond a (x ∷ filter p xs) (filter p xs)
    by true true g e more = ap (λ c. cond c (x ∷ filter p (filter t xs)) (filter p (filter t xs))) e ∙ ap (λ ys. x ∷ ys) more
    by true false g e more = let lost : false ≡ true = g refl in cc
    by false true g e more = ap (λ c. cond c (x ∷ filter p (filter t xs)) (filter p (filter t xs))) e ∙ more
    by false false g e more = more

gone_filter : {X : Type 0} (p t : X → Bool) → ((x : X) → t x ≡ true → p x ≡ false) → (xs : List X) → filter p (filter t xs) ≡ []
gone_filter p t f [] = refl
gone_filter {X} p t f (x ∷ xs) = by (t x) (f x) (gone_filter p t f xs)
  where
    by : (b : Bool) → (b ≡ true → p x ≡ false) → filter p (filter t xs) ≡ [] → filter p (cond b (x ∷ filter t xs) (filter t xs)) ≡ []
    by true g more = ap (λ c. cond c (x ∷ filter p (filter t xs)) (filter p (filter t xs))) (g refl) ∙ more
    by false g more = more

not_so : (b : Bool) → not b ≡ true → b ≡ false
not_so true e = cc
not_so false e = refl

turned : (a b : Bool) → (a ≡ true → b ≡ true) → b ≡ false → a ≡ false
turned true b f e = let so : b ≡ true = f refl in cc
turned false b f e = refl

due_so : (test : Ticket → Bool) (t : Ticket) → is_due test t ≡ true → test t ≡ true
due_so test t e = (and_parts (is_open t) (test t) e).1

due_from : (p q : Ticket → Bool) (t : Ticket) → (p t ≡ true → q t ≡ true) → is_due p t ≡ true → is_due q t ≡ true
due_from p q t f e = let parts = and_parts (is_open t) (p t) e in and_from (is_open t) (q t) parts.0 (f parts.1)

-- what asks for a path that passes a test asks for one that passes it
at_so : (q : List (List ℕ) → Bool) (p : List (List ℕ)) (t : Ticket) → q p ≡ true → asks_at p t ≡ true → asks_so q t ≡ true
at_so q p t passes at = ap q (sym (same_names-eq p t.asked at)) ∙ passes

pub due_cons : (test : Ticket → Bool) (x : Ticket) (ts : List Ticket) → due_numbers test (x ∷ ts) ≡ cond (is_due test x) (x.number ∷ due_numbers test ts) (due_numbers test ts)
due_cons test x ts = by (is_due test x)
  where
    by : (b : Bool) → map number_of (cond b (x ∷ filter (is_due test) ts) (filter (is_due test) ts)) ≡ cond b (x.number ∷ due_numbers test ts) (due_numbers test ts)
    by true = refl
    by false = refl

pub due_append : (test : Ticket → Bool) (xs ys : List Ticket) → due_numbers test (xs ++ ys) ≡ due_numbers test xs ++ due_numbers test ys
due_append test xs ys = ap (map number_of) (filter-append (is_due test) xs ys) ∙ map-append number_of (filter (is_due test) xs) (filter (is_due test) ys)

pub or_empty : (ns : List ℕ) → list_or_empty (some_list ns) ≡ ns
or_empty [] = refl
or_empty (n ∷ ns) = refl

-- ---- tickets that are due for one test go

-- what is due for a test of which the other is a part
due_kept : (p q : Ticket → Bool) → ((t : Ticket) → is_due q t ≡ true → is_due p t ≡ false) → (ts : List Ticket) → due_numbers q (filter (is_left p) ts) ≡ due_numbers q ts
due_kept p q f ts = ap (map number_of) (kept_filter (is_due q) (is_left p) (λ t e. ap not (f t e)) ts)

due_gone : (p q : Ticket → Bool) → ((t : Ticket) → q t ≡ true → p t ≡ true) → (ts : List Ticket) → due_numbers q (filter (is_left p) ts) ≡ []
due_gone p q f ts =
    ap (map number_of) (gone_filter (is_due q) (is_left p) (λ t e. turned (is_due q t) (is_due p t) (due_from q p t (f t)) (not_so (is_due p t) e)) ts)

-- those at a path go
gone_here : (p q : List (List ℕ)) (ts : List Ticket) → same_names p q ≡ true → due_numbers (asks_at p) (filter (is_left (asks_at q)) ts) ≡ []
gone_here p q ts same = due_gone (asks_at q) (asks_at p) (λ t e. ap (λ r. same_names r t.asked) (sym (same_names-eq p q same)) ∙ e) ts

kept_there : (p q : List (List ℕ)) (ts : List Ticket) → same_names p q ≡ false → due_numbers (asks_at p) (filter (is_left (asks_at q)) ts) ≡ due_numbers (asks_at p) ts
kept_there p q ts other =
    due_kept (asks_at q) (asks_at p)
    (λ t e. turned (is_due (asks_at q) t) (same_names p q) (λ here. both t (due_so (asks_at p) t e) (due_so (asks_at q) t here)) other) ts
  where
    both : (t : Ticket) → same_names p t.asked ≡ true → same_names q t.asked ≡ true → same_names p q ≡ true
    both t a b = ap (same_names p) (same_names-eq q t.asked b) ∙ a

sum_due : (f : ℕ → ℕ) (test : Ticket → Bool) (x : Ticket) (ts : List Ticket)
    → sum_by f (due_numbers test (x ∷ ts)) ≡ cond (is_due test x) (f x.number) 0 + sum_by f (due_numbers test ts)
sum_due f test x ts = ap (sum_by f) (due_cons test x ts) ∙ by (is_due test x)
  where
    by : (b : Bool) → sum_by f (cond b (x.number ∷ due_numbers test ts) (due_numbers test ts)) ≡ cond b (f x.number) 0 + sum_by f (due_numbers test ts)
    by true = sum_by-cons f x.number (due_numbers test ts)
    by false = omega arith

sum_left : (f : ℕ → ℕ) (p q : Ticket → Bool) (x : Ticket) (ts : List Ticket)
    → sum_by f (due_numbers q (filter (is_left p) (x ∷ ts)))
    ≡ cond (not (is_due p x) && is_due q x) (f x.number) 0 + sum_by f (due_numbers q (filter (is_left p) ts))
sum_left f p q x ts = by (not (is_due p x))
  where
    by : (b : Bool) → sum_by f (due_numbers q (cond b (x ∷ filter (is_left p) ts) (filter (is_left p) ts)))
        ≡ cond (b && is_due q x) (f x.number) 0 + sum_by f (due_numbers q (filter (is_left p) ts))
    by true = sum_due f q x (filter (is_left p) ts)
    by false = omega arith

-- those that go, and those that are left
sum_parts : (f : ℕ → ℕ) (p q : Ticket → Bool) → ((t : Ticket) → p t ≡ true → q t ≡ true) → (ts : List Ticket)
    → sum_by f (due_numbers p ts) + sum_by f (due_numbers q (filter (is_left p) ts)) ≡ sum_by f (due_numbers q ts)
sum_parts f p q so [] = refl
sum_parts f p q so (x ∷ ts) =
    let a = sum_due f p x ts in
    let b = sum_left f p q x ts in
    let c = sum_due f q x ts in
    let more = sum_parts f p q so ts in
    let one = parts (is_due p x) (is_due q x) (f x.number) (due_from p q x (so x)) in omega (arith, a, b, c, more, one)
  where
    parts : (a b : Bool) (n : ℕ) → (a ≡ true → b ≡ true) → ◌≡◌ {A = ℕ} (cond a n 0 + cond (not a && b) n 0) (cond b n 0)
    parts true true n f = omega arith
    parts true false n f = let lost : false ≡ true = f refl in cc
    parts false true n f = omega arith
    parts false false n f = omega arith

-- ---- the whole index

-- where nothing stands at any path, nothing is due
none_due : (test : Ticket → Bool) (ts : List Ticket) → ((p : List (List ℕ)) → None ≡ some_list (due_numbers (asks_at p) ts)) → due_numbers test ts ≡ []
none_due test [] none = refl
none_due test (x ∷ ts) none = by (is_open x) refl (none_due test ts)
  where
    past : (q : Ticket → Bool) → is_open x ≡ false → due_numbers q (x ∷ ts) ≡ due_numbers q ts
    past q shut = due_cons q x ts ∙ ap (λ b. cond (b && q x) (x.number ∷ due_numbers q ts) (due_numbers q ts)) shut

    by : (b : Bool) → is_open x ≡ b → (((p : List (List ℕ)) → None ≡ some_list (due_numbers (asks_at p) ts)) → due_numbers test ts ≡ []) → due_numbers test (x ∷ ts) ≡ []
    by true still more =
        let here : None ≡ some_list (x.number ∷ due_numbers (asks_at x.asked) ts) =
        none x.asked ∙ ap some_list (due_cons (asks_at x.asked) x ts ∙ ap (λ b. cond b (x.number ∷ due_numbers (asks_at x.asked) ts) (due_numbers (asks_at x.asked) ts))
        (and_from (is_open x) (same_names x.asked x.asked) still (same_names-refl x.asked))) in cc
    by false shut more = past test shut ∙ more (λ p. none p ∙ ap some_list (past (asks_at p) shut))

-- the first entry goes, and with it the tickets at its path
index_rest : (e : Entry (List ℕ)) (es : List (Entry (List ℕ))) (ts : List Ticket) → list_all (is_less e) es ≡ true → IsIndexed ts (e ∷ es)
    → IsIndexed (filter (is_left (asks_at e.path)) ts) es
index_rest e es ts behind are p = by (same_names p e.path) refl
  where
    none : same_names p e.path ≡ true → find (is_at p) es ≡ None
    none same = none_at es behind
      where
        none_at : (xs : List (Entry (List ℕ))) → list_all (is_less e) xs ≡ true → find (is_at p) xs ≡ None
        none_at [] all = refl
        none_at (x ∷ xs) all =
            let parts = and_parts (is_less e x) (list_all (is_less e) xs) all in
            ap (λ b. cond b (Some x) (find (is_at p) xs))
            (ap (λ r. same_names r x.path) (same_names-eq p e.path same) ∙ same_names-sym e.path x.path ∙ apart_behind x.path e.path parts.0)
            ∙ none_at xs parts.1

    by : (b : Bool) → same_names p e.path ≡ b → value_at p es ≡ some_list (due_numbers (asks_at p) (filter (is_left (asks_at e.path)) ts))
    by true same = ap (λ o. option_map value_of o) (none same) ∙ ap some_list (sym (gone_here p e.path ts same))
    by false other =
        ap (λ b. option_map value_of (cond b (Some e) (find (is_at p) es))) (sym other)
        ∙ are p
        ∙ ap some_list (sym (kept_there p e.path ts other))

-- what stands in the first entry
index_first : (e : Entry (List ℕ)) (es : List (Entry (List ℕ))) (ts : List Ticket) → IsIndexed ts (e ∷ es)
    → e.value ≡ due_numbers (asks_at e.path) ts
index_first e es ts are =
    ap (λ b. list_or_empty (option_map value_of (cond b (Some e) (find (is_at e.path) es)))) (sym (same_names-refl e.path))
    ∙ ap list_or_empty (are e.path)
    ∙ or_empty (due_numbers (asks_at e.path) ts)

-- the numbers at the paths that pass a test are those of the tickets that are due there, by whatever is summed up
pub index_whole : (f : ℕ → ℕ) (q : List (List ℕ) → Bool) (es : List (Entry (List ℕ))) (ts : List Ticket) → ascends es ≡ true → IsIndexed ts es
    → sum_by f (all_numbers (filter (λ (e : Entry (List ℕ)). q e.path) es)) ≡ sum_by f (due_numbers (asks_so q) ts)
index_whole f q [] ts order are = ap (sum_by f) (sym (none_due (asks_so q) ts are))
index_whole f q (e ∷ es) ts order are =
    let parts = and_parts (list_all (is_less e) es) (ascends es) order in
    by (q e.path) refl (index_whole f q es (filter (is_left (asks_at e.path)) ts) parts.1 (index_rest e es ts parts.0 are))
  where
    others : List (Entry (List ℕ))
    others = filter (λ (x : Entry (List ℕ)). q x.path) es

    by : (b : Bool) → q e.path ≡ b
        → sum_by f (all_numbers others) ≡ sum_by f (due_numbers (asks_so q) (filter (is_left (asks_at e.path)) ts))
        → sum_by f (all_numbers (cond b (e ∷ others) others)) ≡ sum_by f (due_numbers (asks_so q) ts)
    by true passes more =
        let a = sum_by-append f e.value (all_numbers others) in
        let b = ap (sum_by f) (index_first e es ts are) in
        let c = sum_parts f (asks_at e.path) (asks_so q) (λ t at. at_so q e.path t passes at) ts in omega (arith, a, b, c, more)
    by false other more =
        more
        ∙ ap (sum_by f)
        (due_kept (asks_at e.path) (asks_so q)
        (λ t due. turned (is_due (asks_at e.path) t) (q e.path)
        (λ here. ap q (same_names-eq e.path t.asked (due_so (asks_at e.path) t here)) ∙ due_so (asks_so q) t due) other) ts)

-- ---- tickets of other numbers

-- whether a ticket has another number
abbrev pub is_else : ℕ → Ticket → Bool
is_else number ticket = is_other number ticket.number

-- a number isn't among those of others
pub others_all : (n : ℕ) (test : Ticket → Bool) (xs : List Ticket) → list_all (is_else n) xs ≡ true → filter (is_other n) (due_numbers test xs) ≡ due_numbers test xs
others_all n test [] all = refl
others_all n test (x ∷ xs) all =
    let parts = and_parts (is_else n x) (list_all (is_else n) xs) all in
    ap (filter (is_other n)) (due_cons test x xs) ∙ by (is_due test x) parts.0 (others_all n test xs parts.1) ∙ sym (due_cons test x xs)
  where
    by : (b : Bool) → is_else n x ≡ true → filter (is_other n) (due_numbers test xs) ≡ due_numbers test xs
        → filter (is_other n) (cond b (x.number ∷ due_numbers test xs) (due_numbers test xs)) ≡ cond b (x.number ∷ due_numbers test xs) (due_numbers test xs)
    by true else more = ap (λ c. cond c (x.number ∷ filter (is_other n) (due_numbers test xs)) (filter (is_other n) (due_numbers test xs))) else ∙ ap (λ ns. x.number ∷ ns) more
    by false else more = more

more_other : (a b : ℕ) → nat_lt a b ≡ true → is_other a b ≡ true
more_other a b less = let so = leb-true (suc a) b less in ap not (ne_eqb b a (λ same. absurd (omega (arith, so, same))))

pub later_else : (n : ℕ) (ys : List Ticket) → list_all (nat_lt n) (map number_of ys) ≡ true → list_all (is_else n) ys ≡ true
later_else n [] all = refl
later_else n (y ∷ ys) all =
    let parts = and_parts (nat_lt n y.number) (list_all (nat_lt n) (map number_of ys)) all in
    and_from (is_else n y) (list_all (is_else n) ys) (more_other n y.number parts.0) (later_else n ys parts.1)
