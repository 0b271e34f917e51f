-- A file that is read piece by piece.
use Rattle.std.proofs.Common.{◌≡◌, ◌≤◌, ◌<◌, ◌+◌, ◌^◌, ◌==◌, min, ℕ, Bool, true, false, List, [], ◌++◌, length, length-append, take, drop, Option, Some, None, refl, sym, ap, ap₂, subst, ◌∙◌, arith}
use Rattle.std.proofs.lemmas.Bool.{and_parts, eqb-true}
use Rattle.std.proofs.lemmas.List.{drop-take, length-take, take-append-drop, take-take, take_all, take_min}
use Rattle.std.proofs.lemmas.Option.{same_Some, none-some}
use Rattle.std.specs.Option.{ForSome, option_map}
use Rattle.mat_digest.specs.Digests.{digest_of}
use Rattle.mat_digest.specs.Fed.{HasTaken}
use Rattle.mat_digest.specs.declared.check.Check.{Check}
use Rattle.mat_digest.specs.declared.digest.Digest.{Digest}
use Rattle.mat_tree.specs.Parts.{Part}
use Rattle.mat_tree.specs.Trees.{same_digest}
use Rattle.mat_path.specs.Names.{same_name}
use Rattle.region_port.specs.Reads.{file_bytes, piece}
use Rattle.restart_scan.specs.Looks.{GivesPiece, IsReadTo, is_file_of}

-- nothing of a file is its front
pub nothing_read : (part : Option Part) (rel : List (List ℕ)) (check : Check) → HasTaken check [] → IsReadTo part rel check 0
nothing_read part rel check taken = record {
  fed = [];
  taken = taken;
  long = refl;
  front = λ told is bytes here. refl;
}

-- the first bytes of a list and a piece behind them are its first bytes
front_grows : (fed more bytes : List ℕ) (most : ℕ) → fed ≡ take (length fed) bytes → more ≡ take most (drop (length fed) bytes) →
    (fed ++ more) ≡ take (length (fed ++ more)) bytes
front_grows fed more bytes most front is =
    let a : ℕ = length fed in
    let m : ℕ = length more in
    let long : m ≡ min most (length (drop a bytes)) = ap length is ∙ length-take most (drop a bytes) in
    let same : take m (drop a bytes) ≡ more =
    ap (λ (k : ℕ). take k (drop a bytes)) long ∙ take_min most (drop a bytes) ∙ sym is in
    let split : take (a + m) bytes ≡ (take a bytes ++ take m (drop a bytes)) =
    sym (take-append-drop a (take (a + m) bytes))
    ∙ ap₂ (λ (x y : List ℕ). x ++ y) (take-take a (a + m) bytes (omega arith)) (drop-take a m bytes) in
    ap₂ (λ (x y : List ℕ). x ++ y) front (sym same) ∙ sym split ∙ ap (λ (k : ℕ). take k bytes) (sym (length-append fed more))

-- where a piece is short, nothing is left behind it
short_is_last : (fed more bytes : List ℕ) (most : ℕ) → fed ≡ take (length fed) bytes → more ≡ take most (drop (length fed) bytes) → length more < most →
    (fed ++ more) ≡ bytes
short_is_last fed more bytes most front is short =
    let within : length (drop (length fed) bytes) ≤ most = omega (arith, length-take most (drop (length fed) bytes), ap length is) in
    ap (λ (l : List ℕ). l ++ more) front
    ∙ ap (λ (l : List ℕ). take (length fed) bytes ++ l) (is ∙ take_all most (drop (length fed) bytes) within)
    ∙ take-append-drop (length fed) bytes

-- a piece that is given is one of the file
given_is : (most at : ℕ) (file : Option (List ℕ)) (given bytes : List ℕ) → option_map (piece at most) file ≡ Some given → file ≡ Some bytes →
    given ≡ take most (drop at bytes)
given_is most at file given bytes gives here =
    sym (same_Some (piece at most bytes) given (sym (ap (option_map (piece at most)) here) ∙ gives))

-- a check that took a piece has read the file up to its end
pub reads_on : (now start : Option Part) (rel : List (List ℕ)) (old new : Check) (at most : ℕ) (given : List ℕ) (field : Option (List ℕ)) → now ≡ start →
    IsReadTo now rel old at → GivesPiece rel at most now field → field ≡ Some given →
    ((fed : List ℕ) → HasTaken old fed → length fed + length given < 2 ^ 61 → HasTaken new (fed ++ given)) →
    at + length given < 2 ^ 61 → IsReadTo start rel new (at + length given)
reads_on now start rel old new at most given field same read gives is feeds small = record {
  fed = read.fed ++ given;
  taken = feeds read.fed read.taken (omega (arith, read.long, small));
  long = length-append read.fed given ∙ ap (λ (k : ℕ). k + length given) read.long;
  front = λ told here bytes there.
      let gives_told = subst (λ (f : Option (List ℕ)). GivesPiece rel at most (Some told) f) is
      (subst (λ (p : Option Part). GivesPiece rel at most p field) (same ∙ here) gives) in
      front_grows read.fed given bytes most (read.front told (same ∙ here) bytes there)
      (subst (λ (k : ℕ). given ≡ take most (drop k bytes)) (sym read.long) (given_is most at (file_bytes (told rel)) given bytes gives_told there));
}

-- once a short piece is taken, the digest tells whether the file has its bytes
pub reads_all : (now start : Option Part) (rel : List (List ℕ)) (old new : Check) (at most : ℕ) (given : List ℕ) (field : Option (List ℕ))
    (found digest : Digest) (has : Bool) → now ≡ start → IsReadTo now rel old at → GivesPiece rel at most now field → field ≡ Some given →
    ((fed : List ℕ) → HasTaken old fed → length fed + length given < 2 ^ 61 → HasTaken new (fed ++ given)) →
    at + length given < 2 ^ 61 → length given < most → ((fed : List ℕ) → HasTaken new fed → found ≡ digest_of fed) → has ≡ same_digest found digest →
    ForSome start (λ (told : Part). has ≡ is_file_of digest (file_bytes (told rel)))
reads_all now start rel old new at most given field found digest has same read gives is feeds small short ends eq = λ told here.
    by told here (file_bytes (told rel)) refl
    (subst (λ (f : Option (List ℕ)). GivesPiece rel at most (Some told) f) is (subst (λ (p : Option Part). GivesPiece rel at most p field) (same ∙ here) gives))
  where
    by : (told : Part) → start ≡ Some told → (file : Option (List ℕ)) → file_bytes (told rel) ≡ file →
        option_map (piece at most) (file_bytes (told rel)) ≡ Some given → has ≡ is_file_of digest file
    by told here None there gives_told = absurd (none-some given (sym (ap (option_map (piece at most)) there) ∙ gives_told))
    by told here (Some bytes) there gives_told =
        let whole : (read.fed ++ given) ≡ bytes =
        short_is_last read.fed given bytes most (read.front told (same ∙ here) bytes there)
        (subst (λ (k : ℕ). given ≡ take most (drop k bytes)) (sym read.long) (given_is most at (file_bytes (told rel)) given bytes gives_told there)) short in
        let taken : HasTaken new (read.fed ++ given) = feeds read.fed read.taken (omega (arith, read.long, small)) in
        eq ∙ ap (λ (d : Digest). same_digest d digest) (ends (read.fed ++ given) taken ∙ ap digest_of whole)

-- a file that is longer than the digest says hasn't its bytes
longer_differs : (bytes : List ℕ) (digest : Digest) → digest.size < length bytes → same_digest (digest_of bytes) digest ≡ false
unfolding digest_of
longer_differs bytes digest longer = by (same_digest (digest_of bytes) digest) refl
  where
    by : (b : Bool) → same_digest (digest_of bytes) digest ≡ b → b ≡ false
    by true h =
        let size : length bytes ≡ digest.size =
        eqb-true (length bytes) digest.size (and_parts (same_name (digest_of bytes).hash digest.hash) (length bytes == digest.size) h).1 in
        absurd (omega (arith, size, longer))
    by false h = refl

-- one that was read past what the digest says hasn't
pub read_past : (now start : Option Part) (rel : List (List ℕ)) (check : Check) (at : ℕ) (digest : Digest) → now ≡ start → IsReadTo now rel check at →
    digest.size < at → ForSome start (λ (told : Part). false ≡ is_file_of digest (file_bytes (told rel)))
read_past now start rel check at digest same read past = λ told here. by told here (file_bytes (told rel)) refl
  where
    by : (told : Part) → start ≡ Some told → (file : Option (List ℕ)) → file_bytes (told rel) ≡ file → false ≡ is_file_of digest file
    by told here None there = refl
    by told here (Some bytes) there =
        let front = read.front told (same ∙ here) bytes there in
        sym (longer_differs bytes digest (omega (arith, past, read.long, ap length front, length-take (length read.fed) bytes)))
