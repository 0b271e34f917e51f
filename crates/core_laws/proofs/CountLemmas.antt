-- The counts of the state store and of the disk beside a history that goes on.
use Rattle.std.proofs.Common.{◌≡◌, ◌<◌, ◌≤◌, ◌+◌, ◌-◌, ◌^◌, ℕ, ltb, Bool, true, false, inl, inr, List, [], ◌∷◌, ◌++◌, Option, Some, None, refl, sym, subst, arith}
use Rattle.std.proofs.Math.Nat.{min-eq_left, min-eq_right}
use Rattle.std.proofs.lemmas.Bool.{ltb-false, ltb-true}
use Rattle.std.proofs.lemmas.List.Elements.{Contains-append_cases}
use Rattle.std.specs.Prelude.{min}
use Rattle.mat_path.proofs.Elements.{contains_cases}
use Rattle.mat_model.specs.declared.answers.Device.{Device}
use Rattle.mat_model.specs.declared.answers.FaultNote.{FaultNote}
use Rattle.mat_model.specs.declared.entries.Entry.{Entry}
use Rattle.mat_model.specs.History.{is_keeper}
use Rattle.mat_model.specs.Legal.{HasRisen, IsFaultOf, IsNoteFrom, behind, count_behind, note_of, note_of_end}
use Rattle.core_laws.specs.Stored.{AreCounted, HasDiskRisen, IsDiskNoteWithin, IsNoteWithin}
use Rattle.core_laws.proofs.StoreLemmas.{none_there}

-- the count behind one entry more
behind_more : (count : ℕ) (history : List Entry) (entry : Entry) →
    count_behind count (history ++ entry ∷ []) ≡ behind (count_behind count history) (note_of entry.reply)
behind_more count [] entry = refl
behind_more count (first ∷ history) entry = behind_more (behind count (note_of first.reply)) history entry

-- a count that rises is no less past 0
risen_more : (count more : ℕ) (note : Option FaultNote) → count ≤ more → HasDiskRisen count note → HasDiskRisen more note
risen_more count more None up has = tt
risen_more count more (Some note) up has = λ is. let one = has is in omega (arith, up, one)

behind_within : (count keeper more : ℕ) (note : Option FaultNote) → count ≤ keeper → keeper ≤ more → IsNoteWithin more note → behind count note ≤ more
behind_within count keeper more None known up within = omega (arith, known, up)
behind_within count keeper more (Some note) known up within = within

pub none_counted : (keeper disk : ℕ) → AreCounted [] keeper disk
none_counted keeper disk = record { keeper = omega arith; disk = λ entry among. absurd (none_there among) }

pub more_counted : (history : List Entry) (keeper disk more_keeper more_disk : ℕ) → keeper ≤ more_keeper → disk ≤ more_disk → AreCounted history keeper disk →
    AreCounted history more_keeper more_disk
more_counted history keeper disk more_keeper more_disk up disk_up counted = record {
  keeper = let known = counted.keeper in omega (arith, known, up);
  disk = λ entry among. risen_more disk more_disk (note_of_end entry.event) disk_up (counted.disk entry among);
}

pub entry_counted : (history : List Entry) (entry : Entry) (keeper disk more_keeper more_disk : ℕ) → keeper ≤ more_keeper → disk ≤ more_disk →
    IsNoteWithin more_keeper (note_of entry.reply) → HasDiskRisen more_disk (note_of_end entry.event) → AreCounted history keeper disk →
    AreCounted (history ++ entry ∷ []) more_keeper more_disk
entry_counted history entry keeper disk more_keeper more_disk up disk_up within risen counted = record {
  keeper =
      subst (λ (n : ℕ). n ≤ more_keeper) (sym (behind_more 0 history entry))
      (behind_within (count_behind 0 history) keeper more_keeper (note_of entry.reply) counted.keeper up within);
  disk = λ one among. elim (Contains-append_cases history (entry ∷ []) one among) [
    | inl before ↦ risen_more disk more_disk (note_of_end one.event) disk_up (counted.disk one before)
    | inr last ↦ elim (contains_cases entry [] one last) [
      | inl same ↦ subst (λ (e : Entry). HasDiskRisen more_disk (note_of_end e.event)) same risen
      | inr none ↦ absurd (none_there none)
    ]
  ];
}

-- a count that rose, up to the last number that 64 bits hold, is one that a note tells
pub rose_noted : (note : FaultNote) → note.before < 2 ^ 64 → note.after < 2 ^ 64 → min (note.before + 1) (2 ^ 64 - 1) ≤ note.after → HasRisen note
rose_noted note from within rose = by (ltb note.before note.after) refl
  where
    top : (b : Bool) → ltb (note.before + 1) (2 ^ 64 - 1) ≡ b → note.after ≤ note.before → 2 ^ 64 - 1 ≤ note.after
    top true is more =
        let small = ltb-true (note.before + 1) (2 ^ 64 - 1) is in
        let here : note.before + 1 ≤ note.after =
        subst (λ (n : ℕ). n ≤ note.after) (min-eq_left (omega (arith, small))) rose in
        absurd (omega (arith, here, more))
    top false is more =
        let big = ltb-false (note.before + 1) (2 ^ 64 - 1) is in
        subst (λ (n : ℕ). n ≤ note.after) (min-eq_right big) rose

    by : (b : Bool) → ltb note.before note.after ≡ b → HasRisen note
    by true is = inl (ltb-true note.before note.after is)
    by false is =
        let more = ltb-false note.before note.after is in
        let last : 2 ^ 64 - 1 ≤ note.after = top (ltb (note.before + 1) (2 ^ 64 - 1)) refl more in
        inr ((omega (arith, more, last, from)), omega (arith, last, within))

-- a count that rose isn't 0
risen_once : (note : FaultNote) (count : ℕ) → HasRisen note → note.after ≤ count → 1 ≤ count
risen_once note count (inl more) within = omega (arith, more, within)
risen_once note count (inr (before, most)) within = omega (arith, most, within)

pub fault_counted : (may : Device → Bool) (note : Option FaultNote) (disk : ℕ) → IsFaultOf may note → IsDiskNoteWithin disk note → HasDiskRisen disk note
fault_counted may None disk fault within = tt
fault_counted may (Some note) disk fault within = λ is. risen_once note disk fault.1 (within is)

pub note_apart : (history : List Entry) (keeper disk : ℕ) (note : FaultNote) → AreCounted history keeper disk → keeper ≤ note.before →
    is_keeper note.device ≡ true → HasRisen note → IsNoteFrom (count_behind 0 history) (Some note)
note_apart history keeper disk note counted from is risen = (is, (let known = counted.keeper in omega (arith, known, from)), risen)
