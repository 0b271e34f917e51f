-- From what std says of the bytes that a reader or a writer knows to what a source or a sink says.
use Rattle.std.proofs.Common.{◌≡◌, ℕ, ◌+◌, ◌≤◌, List, [], ◌++◌, length, take, drop, refl, sym, ap, ◌∙◌, arith, length-append, append_assoc, length-take, subst}
use Rattle.std.proofs.Math.Seq.{take-add}
use Rattle.std.specs.Prelude.{Option, Some, None}
use Rattle.std.specs.Io.KnownBytes.{Appends, Consumes, IsAtEnd, Keeps}
use Rattle.std.proofs.lemmas.List.{append-nil, drop-append-le, drop_all, take-append-le, take_all}
use Rattle.mat_io.specs.Streams.{Grows, NoneLeft, Stays, TakesNext}

-- bytes that are kept stay
pub Stays-Keeps : (before after : Option (List ℕ)) → Keeps before after → Stays before after
Stays-Keeps None after h = tt
Stays-Keeps (Some xs) None h = absurd h
Stays-Keeps (Some xs) (Some ys) h = ap Some h

-- a read of nothing at the end leaves all, and that is nothing
pub NoneLeft-Consumes : (before after : Option (List ℕ)) → Consumes before after [] → IsAtEnd after → NoneLeft before × Stays before after
NoneLeft-Consumes None after h end = (tt, tt)
NoneLeft-Consumes (Some xs) None h end = absurd h
NoneLeft-Consumes (Some xs) (Some ys) h end = (ap length (h ∙ end), ap Some (sym h))

-- bytes that were consumed are those at the front
front : (n : ℕ) (xs given ys : List ℕ) → length given ≡ n → xs ≡ given ++ ys
    → (n ≤ length xs) × (given ≡ take n xs) × (ys ≡ drop n xs)
front n xs given ys len same =
    let whole = length-append given ys in (
      omega (arith, whole, ap length same),
      sym (ap (take n) same ∙ take-append-le n given ys (omega arith) ∙ take_all n given (omega arith)),
      sym (ap (drop n) same ∙ drop-append-le n given ys (omega arith) ∙ ap (λ (zs : List ℕ). zs ++ ys) (drop_all n given (omega arith))),
    )

-- a read of n bytes
pub TakesNext-Consumes : (n : ℕ) (before after : Option (List ℕ)) (buffer : List ℕ) → n ≤ length buffer
    → Consumes before after (take n buffer) → TakesNext n before after buffer
TakesNext-Consumes n None after buffer fits h = tt
TakesNext-Consumes n (Some xs) None buffer fits h = absurd h
TakesNext-Consumes n (Some xs) (Some ys) buffer fits h =
    let parts = front n xs (take n buffer) ys (omega (arith, length-take n buffer)) h in
    record { within = parts.0; given = parts.1; rest = ap Some parts.2 }

-- a piece more went out
pub Grows-Appends : (before middle after : Option (List ℕ)) (bytes piece : List ℕ) → Grows before middle bytes
    → Appends middle after piece → Grows before after (bytes ++ piece)
Grows-Appends None middle after bytes piece h g = tt
Grows-Appends (Some out) None after bytes piece h g = cc h
Grows-Appends (Some out) (Some held) None bytes piece h g = absurd g
Grows-Appends (Some out) (Some held) (Some now) bytes piece h g =
    let same : held ≡ out ++ bytes = cc h in
    ap Some (g ∙ ap (λ (xs : List ℕ). xs ++ piece) same ∙ append_assoc out bytes piece)

-- nothing more went out
pub Grows-Keeps : (before middle after : Option (List ℕ)) (bytes : List ℕ) → Grows before middle bytes
    → Keeps middle after → Grows before after bytes
Grows-Keeps None middle after bytes h k = tt
Grows-Keeps (Some out) None after bytes h k = cc h
Grows-Keeps (Some out) (Some held) None bytes h k = absurd k
Grows-Keeps (Some out) (Some held) (Some now) bytes h k = ap Some k ∙ h

-- before the first piece nothing went out
pub Grows-nil : (before : Option (List ℕ)) → Grows before before []
Grows-nil None = tt
Grows-nil (Some out) = ap Some (sym (append-nil out))

-- bytes that were kept twice are kept
pub Keeps-Keeps : (before middle after : Option (List ℕ)) → Keeps before middle → Keeps middle after → Keeps before after
Keeps-Keeps None middle after h k = tt
Keeps-Keeps (Some xs) None after h k = absurd h
Keeps-Keeps (Some xs) (Some ys) None h k = absurd k
Keeps-Keeps (Some xs) (Some ys) (Some zs) h k = k ∙ h

-- nothing was done yet
pub Keeps-refl : (before : Option (List ℕ)) → Keeps before before
Keeps-refl None = tt
Keeps-refl (Some xs) = refl

-- the next n bytes of those that are to go out
pub Grows-piece : (before middle after : Option (List ℕ)) (bytes part : List ℕ) (at n : ℕ) → part ≡ drop at bytes
    → Grows before middle (take at bytes) → Appends middle after (take n part) → Grows before after (take (at + n) bytes)
Grows-piece before middle after bytes part at n same grown appends =
    let whole : take at bytes ++ take n part ≡ take (at + n) bytes = rw same (sym (take-add at n bytes)) in
    subst (λ (xs : List ℕ). Grows before after xs) whole
    (Grows-Appends before middle after (take at bytes) (take n part) grown appends)
