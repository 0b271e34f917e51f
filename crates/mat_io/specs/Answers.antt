-- Which answers say that a call failed.
use Rattle.std.specs.Prelude.{Bool, true, false}
use Rattle.mat_io.specs.declared.answer.Got.{Got}
use Rattle.mat_io.specs.declared.answer.Got.TheVariants as got
use Rattle.mat_io.specs.declared.answer.Put.{Put}
use Rattle.mat_io.specs.declared.answer.Put.TheVariants as put
use Rattle.mat_io.specs.declared.answer.Did.{Did}
use Rattle.mat_io.specs.declared.answer.Did.TheVariants as did

-- a read failed
abbrev pub got_failed : Got → Bool
got_failed (got.Taken n) = false
got_failed got.End = false
got_failed got.Failed = true

-- a write failed
abbrev pub put_failed : Put → Bool
put_failed put.All = false
put_failed put.Failed = true
put_failed put.NoMemory = false

-- a call of a device failed
abbrev pub did_failed : Did → Bool
did_failed did.Done = false
did_failed did.Failed = true
did_failed did.NoMemory = false
