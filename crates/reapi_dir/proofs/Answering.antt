-- What the answer of a reader says, by what reading answers.
use Rattle.std.proofs.Common.{◌≡◌, ℕ, ◌^◌, ◌<◌, List, length, get_or, Fits, w8, Some, None, Result, Ok, Err, ◌⊎◌, inl, inr, refl, ap, arith}
use Rattle.std.specs.Prelude.{IfOk, IfErr, MatchResult}
use Rattle.hex.specs.Hex.{IsBytes}
use Rattle.reapi_dir.specs.declared.message.DirMessage.{DirMessage}
use Rattle.reapi_dir.specs.declared.refusal.DirRefusal.{DirRefusal}
use Rattle.reapi_dir.specs.declared.refusal.DirRefusal.TheVariants as refusal
use Rattle.reapi_dir.specs.Grammar.{Spells}
use Rattle.reapi_dir.specs.Reading.{dir_refusal, message_read, refusal_in}
use Rattle.reapi_dir.proofs.MessageBack.{message_back, message_spells}

-- what the type says of the bytes of a slice
pub are_bytes : (xs : List ℕ) → ((i : ℕ) → Fits w8 (get_or xs i 0)) → IsBytes xs
are_bytes xs h i = omega (arith, h i)

module _ (bytes : List ℕ) where
  -- what reading all of the bytes answers
  abbrev pub reading : Result DirMessage DirRefusal
  reading = message_read (length bytes) bytes

  -- a message that reading gave is one that the bytes spell
  pub answer_spells : (r : Result DirMessage DirRefusal) → IsBytes bytes → IfOk r (λ m. reading ≡ Ok m) → IfOk r (λ m. Spells bytes m)
  answer_spells (Ok m) h read = message_spells bytes m (length bytes) h read
  answer_spells (Err e) h read = tt

  -- where the bytes spell a message, an answer is that message or want of memory
  pub answer_whole : (r : Result DirMessage DirRefusal) → length bytes < 2 ^ 64 → IfOk r (λ m. reading ≡ Ok m)
      → IfErr r (λ e. (e ≡ refusal.NoMemory) ⊎ (reading ≡ Err e)) → (message : DirMessage) → Spells bytes message
      → MatchResult r (λ read. read ≡ message) (λ e. e ≡ refusal.NoMemory)
  answer_whole (Ok m) short read fault message spells =
      let back = message_back bytes message (length bytes) spells short in
      cc (read, back)
  answer_whole (Err e) short read (inl memory) message spells = memory
  answer_whole (Err e) short read (inr fault) message spells =
      let back = message_back bytes message (length bytes) spells short in
      cc (fault, back)

  -- an answer that is a message comes where no fault stands, and a refusal is the first fault or want of memory
  pub answer_exact : (r : Result DirMessage DirRefusal) → IfOk r (λ m. reading ≡ Ok m) → IfErr r (λ e. (e ≡ refusal.NoMemory) ⊎ (reading ≡ Err e))
      → MatchResult r (λ m. dir_refusal bytes ≡ None) (λ e. (e ≡ refusal.NoMemory) ⊎ (dir_refusal bytes ≡ Some e))
  answer_exact (Ok m) read fault = ap refusal_in read
  answer_exact (Err e) read (inl memory) = inl memory
  answer_exact (Err e) read (inr fault) = inr (ap refusal_in fault)

  -- bytes that spell a message have no fault
  pub no_refusal : (message : DirMessage) → length bytes < 2 ^ 64 → Spells bytes message → dir_refusal bytes ≡ None
  no_refusal message short spells = ap refusal_in (message_back bytes message (length bytes) spells short)

  -- bytes that have no fault spell a message
  pub message_there : IsBytes bytes → dir_refusal bytes ≡ None → (message : DirMessage) × Spells bytes message
  message_there h none = there reading refl none
    where
      there : (r : Result DirMessage DirRefusal) → reading ≡ r → refusal_in r ≡ None → (message : DirMessage) × Spells bytes message
      there (Ok m) e none = (m, message_spells bytes m (length bytes) h e)
      there (Err x) e none = cc

  -- bytes spell at most one message
  pub one_message : (first second : DirMessage) → length bytes < 2 ^ 64 → Spells bytes first → Spells bytes second → first ≡ second
  one_message first second short a b =
      let read_a = message_back bytes first (length bytes) a short in
      let read_b = message_back bytes second (length bytes) b short in
      cc (read_a, read_b)
