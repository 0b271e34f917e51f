-- Sources and sinks in memory, of which chosen calls fail.
use Rattle.std.specs.Prelude.{ℕ, ◌==◌, min, Bool, if◌then◌else◌, List, ◌++◌, length, take, drop}
use Rattle.std.specs.List.{list_any}
use Rattle.mat_io.specs.Causes.{faults_after, risen}
use Rattle.mat_io.specs.declared.answer.Got.{Got}
use Rattle.mat_io.specs.declared.answer.Got.TheVariants as got
use Rattle.mat_io.specs.declared.answer.Put.{Put}
use Rattle.mat_io.specs.declared.answer.Put.TheVariants as put

-- a source: the bytes left, the numbers of the calls that fail, the calls so far and the faults so far
pub record Feed : Type 0 where
  pub left : List ℕ
  pub fails : List ℕ
  pub calls : ℕ
  pub faults : ℕ

-- the call with this number fails
abbrev pub is_failing : List ℕ → ℕ → Bool
is_failing fails call = list_any (λ number. number == call) fails

-- what a read into a buffer of this length answers
abbrev pub read_answer : Feed → ℕ → Got
read_answer s room =
    if is_failing s.fails s.calls then got.Failed
    else if length s.left == 0 then got.End
    else got.Taken (min room (length s.left))

-- the buffer after that read: the bytes that were taken, and the rest of it
abbrev pub buffer_after : Feed → List ℕ → List ℕ
buffer_after s buffer =
    if is_failing s.fails s.calls then buffer
    else take (length buffer) s.left ++ drop (length s.left) buffer

-- the source after that read
abbrev pub after_read : Feed → ℕ → Feed
after_read s room = record {
  left = if is_failing s.fails s.calls then s.left else drop room s.left;
  fails = s.fails;
  calls = risen s.calls;
  faults = faults_after (is_failing s.fails s.calls) s.faults;
}

-- a sink: the bytes that went out, the numbers of the calls that fail, the calls and the faults so far
pub record Drain : Type 0 where
  pub out : List ℕ
  pub fails : List ℕ
  pub calls : ℕ
  pub faults : ℕ

-- the bytes after a write: all of it where it answers so, else none
abbrev pub out_after : List ℕ → List ℕ → Put → List ℕ
out_after out bytes put.All = out ++ bytes
out_after out bytes put.Failed = out
out_after out bytes put.NoMemory = out

-- the sink after a write that answers so
abbrev pub after_write : Drain → List ℕ → Put → Drain
after_write s bytes answer = record {
  out = out_after s.out bytes answer;
  fails = s.fails;
  calls = risen s.calls;
  faults = faults_after (is_failing s.fails s.calls) s.faults;
}
