-- What a request asks.
use Rattle.std.specs.Prelude.{ℕ, false}
use Rattle.mat_digest.specs.Digests.{digest_of}
use Rattle.hall_lock.specs.declared.By.{By}
use Rattle.mat_tree.specs.Trees.{file_sum}
use Rattle.mat_model.specs.declared.answers.Reply.{Reply}
use Rattle.mat_model.specs.declared.entries.Entry.{Entry}
use Rattle.mat_model.specs.declared.entries.Event.TheVariants as event
use Rattle.mat_model.specs.declared.requests.Asked.{Asked}
use Rattle.mat_model.specs.declared.requests.Asked.TheVariants as asked
use Rattle.mat_model.specs.declared.requests.Request.{Request}
use Rattle.mat_model.specs.declared.requests.Request.TheVariants as request

-- a request without the bytes of its file
abbrev pub request_asks : Request → Asked
request_asks (request.Enter command state soft refuse) = asked.Enter command state soft refuse
request_asks (request.Leave command) = asked.Leave command
request_asks (request.Write command path bytes) = asked.Write command path (file_sum (digest_of bytes) false)
request_asks (request.Declare command path tree) = asked.Declare command path tree
request_asks (request.Copy command path source) = asked.Copy command path source
request_asks (request.Matches command path sum) = asked.Matches command path sum
request_asks (request.Has command path) = asked.Has command path
request_asks (request.Ensure command path) = asked.Ensure command path
request_asks (request.Invalidate command path) = asked.Invalidate command path
request_asks (request.Clean cutoff mode) = asked.Clean cutoff mode
request_asks request.Flush = asked.Flush

-- the entry of a request with its reply
abbrev pub entry_of : By → ℕ → Request → Reply → Entry
entry_of by moment request said = record { by = by; now = moment; event = event.Asked (request_asks request); reply = said }
