-- The tables of numbers, where a ticket comes and where one is answered.
use Rattle.std.proofs.Common.{◌≡◌, ◌<◌, ℕ, suc, nat_lt, ◌==◌, Bool, true, false, not, ◌&&◌, cond, List, [], ◌∷◌, ◌++◌, map, take, drop, get_or, length, refl, ◌∙◌, sym, ap, Option, Some}
use Rattle.std.proofs.lemmas.Bool.{and_from, and_parts, eq-eqb}
use Rattle.std.proofs.lemmas.List.{append-nil, take-append-drop}
use Rattle.std.proofs.lemmas.List.Elements.{filter-append}
use Rattle.std.proofs.Math.Seq.{drop-cons}
use Rattle.std.specs.BTreeMap.{BTreeMap, get}
use Rattle.std.specs.BTreeSet.{insert_key}
use Rattle.std.specs.List.{filter, list_all}
use Rattle.std.specs.Ordering.{nat_cmp}
use Rattle.std.specs.declared.alloc.Global.{Global}
use Rattle.std.specs.declared.vec.Vec.{Vec}
use Rattle.mat_path.specs.Names.{is_prefix, same_names}
use Rattle.mat_model.specs.declared.answers.Answer.{Answer}
use Rattle.mat_model.specs.declared.book.Ticket.{Ticket}
use Rattle.mat_model.specs.Books.{are_ascending, number_of}
use Rattle.mat_model.specs.Tickets.{is_open, with_answer}
use Rattle.path_trie.specs.declared.entry.Entry.{Entry}
use Rattle.path_trie.specs.Entries.{value_at}
use Rattle.path_trie.proofs.Lists.{all_so}
use Rattle.ticket_book.specs.Asked.{answered_if, asks_below, asks_for, has_number, is_due, is_earlier}
use Rattle.ticket_book.specs.Below.{numbers_at}
use Rattle.ticket_book.specs.ByPath.{asks_at, due_numbers, is_other, list_or_empty, numbers_less, numbers_with, some_list}
use Rattle.ticket_book.specs.Found.{is_past}
use Rattle.ticket_book.specs.Index.{IsIndex}
use Rattle.ticket_book.proofs.DueLemmas.{due_append, due_cons, is_else, or_empty, others_all}
use Rattle.ticket_book.proofs.NumberLemmas.{is_lower, none_other, put_last}
use Rattle.ticket_book.proofs.RowLemmas.{back_later, due_all, earlier_idle, later_idle}

-- ---- a ticket comes

earlier_lower : (n : ℕ) (ts : List Ticket) → list_all (is_earlier n) ts ≡ true → list_all (is_lower n) (map number_of ts) ≡ true
earlier_lower n [] all = refl
earlier_lower n (x ∷ ts) all =
    let parts = and_parts (is_earlier n x) (list_all (is_earlier n) ts) all in
    and_from (is_lower n x.number) (list_all (is_lower n) (map number_of ts)) parts.0 (earlier_lower n ts parts.1)

-- the numbers of those that are due are lower than one that is
due_lower : (q : Ticket → Bool) (n : ℕ) (ts : List Ticket) → list_all (is_earlier n) ts ≡ true → list_all (is_lower n) (due_numbers q ts) ≡ true
due_lower q n ts all = due_all (is_lower n) q ts (earlier_lower n ts all)

put_behind : (q : Ticket → Bool) (n : ℕ) (ts : List Ticket) → list_all (is_earlier n) ts ≡ true
    → insert_key nat_cmp (list_or_empty (some_list (due_numbers q ts))) n ≡ due_numbers q ts ++ n ∷ []
put_behind q n ts all =
    ap (λ ns. insert_key nat_cmp ns n) (or_empty (due_numbers q ts)) ∙ put_last n (due_numbers q ts) (due_lower q n ts all)

pushed : (ns : List ℕ) (n : ℕ) → Some (ns ++ n ∷ []) ≡ some_list (ns ++ n ∷ [])
pushed [] n = refl
pushed (m ∷ ns) n = refl

one_more : (q : Ticket → Bool) (ts : List Ticket) (t : Ticket) → list_all (is_earlier t.number) ts ≡ true → is_open t ≡ true
    → cond (q t) (numbers_with t.number (some_list (due_numbers q ts))) (some_list (due_numbers q ts)) ≡ some_list (due_numbers q (ts ++ t ∷ []))
one_more q ts t later still = by (q t) refl
  where
    last : (b : Bool) → q t ≡ b → due_numbers q (ts ++ t ∷ []) ≡ due_numbers q ts ++ cond b (t.number ∷ []) []
    last b e =
        due_append q ts (t ∷ [])
        ∙ ap (λ ns. due_numbers q ts ++ ns)
        (due_cons q t [] ∙ ap (λ c. cond (c && q t) (t.number ∷ []) []) still ∙ ap (λ c. cond c (t.number ∷ []) []) e)

    by : (b : Bool) → q t ≡ b → cond b (numbers_with t.number (some_list (due_numbers q ts))) (some_list (due_numbers q ts)) ≡ some_list (due_numbers q (ts ++ t ∷ []))
    by true e = ap Some (put_behind q t.number ts later) ∙ pushed (due_numbers q ts) t.number ∙ ap some_list (sym (last true e))
    by false e = ap some_list (sym (append-nil (due_numbers q ts)) ∙ sym (last false e))

-- a number that was put behind the others goes again
put_undone : (q : Ticket → Bool) (n : ℕ) (ts : List Ticket) (b : Bool) → list_all (is_earlier n) ts ≡ true
    → cond b (numbers_less n (cond b (numbers_with n (some_list (due_numbers q ts))) (some_list (due_numbers q ts))))
    (cond b (numbers_with n (some_list (due_numbers q ts))) (some_list (due_numbers q ts)))
    ≡ some_list (due_numbers q ts)
put_undone q n ts true later =
    ap (λ ns. some_list (filter (is_other n) ns)) (put_behind q n ts later)
    ∙ ap some_list
    (filter-append (is_other n) (due_numbers q ts) (n ∷ [])
    ∙ ap (λ b. filter (is_other n) (due_numbers q ts) ++ cond (not b) (n ∷ []) []) (eq-eqb n n refl)
    ∙ append-nil (filter (is_other n) (due_numbers q ts))
    ∙ none_other n (due_numbers q ts) (due_lower q n ts later))
put_undone q n ts false later = refl

-- what stands at a key of a table, once it is put there for a ticket
pub table_added : (q : Ticket → Bool) (ts : List Ticket) (t : Ticket) (old new : Option (List ℕ)) → list_all (is_earlier t.number) ts ≡ true → is_open t ≡ true
    → old ≡ some_list (due_numbers q ts) → new ≡ cond (q t) (numbers_with t.number old) old → new ≡ some_list (due_numbers q (ts ++ t ∷ []))
table_added q ts t old new later still before put =
    put ∙ ap (λ o. cond (q t) (numbers_with t.number o) o) before ∙ one_more q ts t later still

-- once it is put there, and taken away again
pub table_undone : (q : Ticket → Bool) (n : ℕ) (ts : List Ticket) (b : Bool) (old mid new : Option (List ℕ)) → list_all (is_earlier n) ts ≡ true
    → old ≡ some_list (due_numbers q ts) → mid ≡ cond b (numbers_with n old) old → new ≡ cond b (numbers_less n mid) mid → new ≡ some_list (due_numbers q ts)
table_undone q n ts b old mid new later before put gone =
    gone
    ∙ ap (λ o. cond b (numbers_less n o) o) (put ∙ ap (λ o. cond b (numbers_with n o) o) before)
    ∙ put_undone q n ts b later

-- once it is taken away at a table of which the ticket is one
pub table_back : (q : Ticket → Bool) (ts : List Ticket) (t : Ticket) (mid new : Option (List ℕ)) → list_all (is_earlier t.number) ts ≡ true → is_open t ≡ true
    → mid ≡ some_list (due_numbers q (ts ++ t ∷ [])) → new ≡ cond (q t) (numbers_less t.number mid) mid → new ≡ some_list (due_numbers q ts)
table_back q ts t mid new later still before gone =
    table_undone q t.number ts (q t) (some_list (due_numbers q ts)) mid new later refl (before ∙ sym (one_more q ts t later still)) gone

-- ---- a ticket is answered

-- what is due once the open tickets of a number are answered
due_without : (q : Ticket → Bool) (n at : ℕ) (given : Answer) (ts : List Ticket) → due_numbers q (map (answered_if (has_number n) at given) ts) ≡ filter (is_other n) (due_numbers q ts)
due_without q n at given [] = refl
due_without q n at given (x ∷ ts) =
    due_cons q (answered_if (has_number n) at given x) (map (answered_if (has_number n) at given) ts)
    ∙ by (is_open x) refl (has_number n x) refl (due_without q n at given ts)
    ∙ ap (filter (is_other n)) (sym (due_cons q x ts))
  where
    rest : List ℕ
    rest = due_numbers q (map (answered_if (has_number n) at given) ts)

    by : (a : Bool) → is_open x ≡ a → (b : Bool) → has_number n x ≡ b → rest ≡ filter (is_other n) (due_numbers q ts)
        → cond (is_due q (cond (a && b) (with_answer at given x) x)) (number_of (cond (a && b) (with_answer at given x) x) ∷ rest) rest
        ≡ filter (is_other n) (cond (a && q x) (x.number ∷ due_numbers q ts) (due_numbers q ts))
    by true still true same more = pick (q x)
      where
        pick : (c : Bool) → rest ≡ filter (is_other n) (cond c (x.number ∷ due_numbers q ts) (due_numbers q ts))
        pick true = more ∙ ap (λ s. cond (not s) (x.number ∷ filter (is_other n) (due_numbers q ts)) (filter (is_other n) (due_numbers q ts))) (sym same)
        pick false = more
    by true still false other more = ap (λ s. cond (s && q x) (x.number ∷ rest) rest) still ∙ pick (q x)
      where
        pick : (c : Bool) → cond c (x.number ∷ rest) rest ≡ filter (is_other n) (cond c (x.number ∷ due_numbers q ts) (due_numbers q ts))
        pick true =
            ap (λ ns. x.number ∷ ns) more
            ∙ ap (λ s. cond (not s) (x.number ∷ filter (is_other n) (due_numbers q ts)) (filter (is_other n) (due_numbers q ts))) (sym other)
        pick false = more
    by false shut b e more = ap (λ s. cond (s && q x) (x.number ∷ rest) rest) shut ∙ more

-- a ticket that isn't due, or isn't the one of the number, leaves the numbers as they are
due_idle : (q : Ticket → Bool) (n k : ℕ) (ts : List Ticket) (d : Ticket) → are_ascending (map number_of ts) ≡ true → list_all (is_earlier n) (take k ts) ≡ true
    → list_all (is_past n) (drop k ts) ≡ true → k < length ts → (is_due (has_number n) (get_or ts k d) && q (get_or ts k d)) ≡ false
    → filter (is_other n) (due_numbers q ts) ≡ due_numbers q ts
due_idle q n k ts d ascend front back within out =
    ap (λ xs. filter (is_other n) (due_numbers q xs)) split
    ∙ ap (filter (is_other n)) around
    ∙ filter-append (is_other n) (due_numbers q (take k ts)) (here (due_numbers q (drop (suc k) ts)))
    ∙ ap (λ ns. ns ++ filter (is_other n) (here (due_numbers q (drop (suc k) ts)))) (others_all n q (take k ts) (all_so (is_earlier n) (is_else n) (λ t early. ap not (earlier_idle n t early)) (take k ts) front))
    ∙ ap (λ ns. due_numbers q (take k ts) ++ ns)
    (stays (is_open the) (q the) (has_number n the) refl out
    (others_all n q (drop (suc k) ts)
    (all_so (λ (t : Ticket). nat_lt n t.number) (is_else n) (λ t late. ap not (later_idle n t late)) (drop (suc k) ts) (back_later n ts k d within ascend back))))
    ∙ sym around
    ∙ ap (due_numbers q) (sym split)
  where
    the : Ticket
    the = get_or ts k d

    here : List ℕ → List ℕ
    here ns = cond (is_due q the) (the.number ∷ ns) ns

    split : ts ≡ take k ts ++ (the ∷ drop (suc k) ts)
    split = sym (take-append-drop k ts) ∙ ap (λ xs. take k ts ++ xs) (drop-cons ts k d within)

    around : due_numbers q (take k ts ++ (the ∷ drop (suc k) ts)) ≡ due_numbers q (take k ts) ++ here (due_numbers q (drop (suc k) ts))
    around = due_append q (take k ts) (the ∷ drop (suc k) ts) ∙ ap (λ ns. due_numbers q (take k ts) ++ ns) (due_cons q the (drop (suc k) ts))

    stays : (a b s : Bool) → has_number n the ≡ s → ((a && s) && b) ≡ false → filter (is_other n) (due_numbers q (drop (suc k) ts)) ≡ due_numbers q (drop (suc k) ts)
        → filter (is_other n) (cond (a && b) (the.number ∷ due_numbers q (drop (suc k) ts)) (due_numbers q (drop (suc k) ts)))
        ≡ cond (a && b) (the.number ∷ due_numbers q (drop (suc k) ts)) (due_numbers q (drop (suc k) ts))
    stays true true true e f more = cc
    stays true true false e f more =
        ap (λ c. cond (not c) (the.number ∷ filter (is_other n) (due_numbers q (drop (suc k) ts))) (filter (is_other n) (due_numbers q (drop (suc k) ts)))) e
        ∙ ap (λ ns. the.number ∷ ns) more
    stays true false s e f more = more
    stays false b s e f more = more

one_fewer : (q : Ticket → Bool) (n at : ℕ) (given : Answer) (k : ℕ) (ts : List Ticket) (d : Ticket) → are_ascending (map number_of ts) ≡ true
    → list_all (is_earlier n) (take k ts) ≡ true → list_all (is_past n) (drop k ts) ≡ true → k < length ts
    → (b : Bool) → (is_due (has_number n) (get_or ts k d) && q (get_or ts k d)) ≡ b
    → cond b (numbers_less n (some_list (due_numbers q ts))) (some_list (due_numbers q ts)) ≡ some_list (due_numbers q (map (answered_if (has_number n) at given) ts))
one_fewer q n at given k ts d ascend front back within true e =
    ap (λ ns. some_list (filter (is_other n) ns)) (or_empty (due_numbers q ts)) ∙ ap some_list (sym (due_without q n at given ts))
one_fewer q n at given k ts d ascend front back within false e =
    ap some_list (sym (due_idle q n k ts d ascend front back within e) ∙ sym (due_without q n at given ts))

-- what stands at a key of a table, once the ticket of a number is answered and taken away there
table_answered : (q : Ticket → Bool) (n at : ℕ) (given : Answer) (k : ℕ) (ts news : List Ticket) (t : Ticket) (old new : Option (List ℕ)) → are_ascending (map number_of ts) ≡ true
    → list_all (is_earlier n) (take k ts) ≡ true → list_all (is_past n) (drop k ts) ≡ true → k < length ts
    → t ≡ get_or ts k t → news ≡ map (answered_if (has_number n) at given) ts
    → old ≡ some_list (due_numbers q ts) → new ≡ cond (is_due (has_number n) t && q t) (numbers_less n old) old
    → new ≡ some_list (due_numbers q news)
table_answered q n at given k ts news t old new ascend front back within is after before gone =
    gone
    ∙ ap (λ o. cond (is_due (has_number n) t && q t) (numbers_less n o) o) before
    ∙ one_fewer q n at given k ts t ascend front back within (is_due (has_number n) t && q t) (ap (λ x. is_due (has_number n) x && q x) (sym is))
    ∙ ap (λ xs. some_list (due_numbers q xs)) (sym after)

-- all tables, once that ticket is answered
pub index_answered : (n at : ℕ) (given : Answer) (k : ℕ) (ts news : List Ticket) (t : Ticket) (es more : List (Entry (List ℕ))) (gs heaps : BTreeMap (Vec (List ℕ) Global) (List ℕ)) (cs others : BTreeMap ℕ (List ℕ))
    → IsIndex ts es gs cs
    → are_ascending (map number_of ts) ≡ true → list_all (is_earlier n) (take k ts) ≡ true → list_all (is_past n) (drop k ts) ≡ true → k < length ts
    → t ≡ get_or ts k t → news ≡ map (answered_if (has_number n) at given) ts
    → ((p : List (List ℕ)) → value_at p more ≡ cond (is_due (has_number n) t && same_names p t.asked) (numbers_less n (value_at p es)) (value_at p es))
    → ((p : List (List ℕ)) → numbers_at p heaps ≡ cond (is_due (has_number n) t && is_prefix p t.asked) (numbers_less n (numbers_at p gs)) (numbers_at p gs))
    → ((c : ℕ) → get nat_cmp others c ≡ cond (is_due (has_number n) t && (t.command == c)) (numbers_less n (get nat_cmp cs c)) (get nat_cmp cs c))
    → IsIndex news more heaps others
index_answered n at given k ts news t es more gs heaps cs others are ascend front back within is after paths below commands = record {
  paths = λ p. table_answered (asks_at p) n at given k ts news t (value_at p es) (value_at p more) ascend front back within is after (are.paths p) (paths p);
  below = λ p. table_answered (asks_below p) n at given k ts news t (numbers_at p gs) (numbers_at p heaps) ascend front back within is after (are.below p) (below p);
  commands = λ c. table_answered (asks_for c) n at given k ts news t (get nat_cmp cs c) (get nat_cmp others c) ascend front back within is after (are.commands c) (commands c);
}
