-- The items that a line may ask for.
use Rattle.mat_tree.specs.Trees.{is_placed}
use Rattle.std.specs.Prelude.{◌≡◌, ℕ, ◌^◌, ◌<◌, ◌≤◌, true}
use Rattle.std.specs.List.{list_all}
use Rattle.mat_model.specs.declared.requests.Request.{Request}
use Rattle.mat_model.specs.declared.requests.Request.TheVariants as request
use Rattle.script_lang.specs.declared.items.Item.{Item}
use Rattle.script_lang.specs.declared.items.Item.TheVariants as item
use Rattle.script_lang.specs.declared.items.Line.{Line}
use Rattle.script_lang.specs.declared.items.Line.TheVariants as line

-- what the language asks of a request beyond what its type says
abbrev pub HasRequestBounds : Request → Type 0
HasRequestBounds (request.Enter command state soft refuse) = Unit {0}
HasRequestBounds (request.Leave command) = Unit {0}
HasRequestBounds (request.Write command path bytes) = Unit {0}
HasRequestBounds (request.Declare command path tree) = list_all (is_placed path) tree ≡ true
HasRequestBounds (request.Copy command path source) = Unit {0}
HasRequestBounds (request.Matches command path sum) = Unit {0}
HasRequestBounds (request.Has command path) = Unit {0}
HasRequestBounds (request.Ensure command path) = Unit {0}
HasRequestBounds (request.Invalidate command path) = Unit {0}
HasRequestBounds (request.Clean cutoff mode) = cutoff < 2 ^ 63
HasRequestBounds request.Flush = Unit {0}

-- what the language asks of an item beyond what its type says, where there are so many workers
abbrev pub HasBounds : ℕ → Item → Type 0
HasBounds workers (item.Request asked) = HasRequestBounds asked
HasBounds workers (item.Blob bytes) = Unit {0}
HasBounds workers (item.Lie digest bytes) = Unit {0}
HasBounds workers (item.At moment) = moment < 2 ^ 63
HasBounds workers (item.Step worker) = worker < workers
HasBounds workers item.Drain = Unit {0}
HasBounds workers (item.Show path) = Unit {0}
HasBounds workers item.Asks = Unit {0}
HasBounds workers (item.Fail device k) = 1 ≤ k
HasBounds workers (item.Stop k pick) = Unit {0}
HasBounds workers item.Restart = Unit {0}

-- the same of a line, if it is an item
abbrev pub HasLineBounds : ℕ → Line → Type 0
HasLineBounds workers line.Skip = Unit {0}
HasLineBounds workers line.End = Unit {0}
HasLineBounds workers line.Unread = Unit {0}
HasLineBounds workers (line.Item it) = HasBounds workers it
HasLineBounds workers line.NoMemory = Unit {0}
