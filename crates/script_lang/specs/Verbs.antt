-- The words that begin lines.
use Rattle.std.specs.Prelude.{ℕ, codes, if◌then◌else◌, List, Option, Some, None}
use Rattle.mat_path.specs.Names.{same_name}
use Rattle.script_lang.specs.declared.verbs.Asking.{Asking}
use Rattle.script_lang.specs.declared.verbs.Asking.TheVariants as asking
use Rattle.script_lang.specs.declared.verbs.Doing.{Doing}
use Rattle.script_lang.specs.declared.verbs.Doing.TheVariants as doing

-- what a request asks for whose line this word begins
abbrev pub asking_of : List ℕ → Option Asking
asking_of word =
    if same_name word (codes "enter") then Some asking.Enter
    else if same_name word (codes "leave") then Some asking.Leave
    else if same_name word (codes "write") then Some asking.Write
    else if same_name word (codes "declare") then Some asking.Declare
    else if same_name word (codes "copy") then Some asking.Copy
    else if same_name word (codes "match") then Some asking.Match
    else if same_name word (codes "has") then Some asking.Has
    else if same_name word (codes "ensure") then Some asking.Ensure
    else if same_name word (codes "invalidate") then Some asking.Invalidate
    else if same_name word (codes "clean") then Some asking.Clean
    else if same_name word (codes "flush") then Some asking.Flush
    else None

-- what another line does that this word begins
abbrev pub doing_of : List ℕ → Option Doing
doing_of word =
    if same_name word (codes "blob") then Some doing.Blob
    else if same_name word (codes "lie") then Some doing.Lie
    else if same_name word (codes "at") then Some doing.At
    else if same_name word (codes "step") then Some doing.Step
    else if same_name word (codes "drain") then Some doing.Drain
    else if same_name word (codes "show") then Some doing.Show
    else if same_name word (codes "asks") then Some doing.Asks
    else if same_name word (codes "fail") then Some doing.Fail
    else if same_name word (codes "stop") then Some doing.Stop
    else if same_name word (codes "restart") then Some doing.Restart
    else None
