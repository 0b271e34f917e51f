-- What each stage of a make keeps.
use Rattle.std.specs.Prelude.{◌≡◌, ◌≤◌, ◌==◌, ◌+◌, ◌-◌, ◌*◌, ℕ, Bool, true, false, not, if◌then◌else◌, List, [], ◌∷◌, ◌++◌, length, take, Option, Some, None}
use Rattle.std.specs.List.{sum_by}
use Rattle.std.specs.Option.{is_some}
use Rattle.mat_digest.specs.Digests.{digest_of}
use Rattle.mat_digest.specs.declared.digest.Digest.{Digest}
use Rattle.mat_tree.specs.Parts.{Part}
use Rattle.mat_tree.specs.declared.flat.Flat.{Flat}
use Rattle.write_plan.specs.Plans.{is_empty}
use Rattle.write_plan.specs.declared.act.Act.{Act}
use Rattle.write_plan.specs.declared.act.Act.TheVariants as act
use Rattle.write_plan.specs.declared.act.Supply.{Supply}
use Rattle.write_plan.specs.declared.act.Supply.TheVariants as supply
use Rattle.write_plan.specs.declared.method.Method.{Method}
use Rattle.job_run.specs.Growing.{Grows, HasNodes, dir_node, file_node, link_node}
use Rattle.job_run.specs.Orders.{IsLeft, IsMakeable, acts_cost, again_cost, file_cost, held_bytes, own_supply}
use Rattle.job_run.specs.Pieces.{is_last, most_bytes}
use Rattle.job_run.specs.Readings.{HasGiven}
use Rattle.job_run.specs.declared.reading.Reading.{Reading}
use Rattle.job_run.specs.declared.states.Doing.{Doing}
use Rattle.job_run.specs.declared.states.Doing.TheVariants as doing
use Rattle.job_run.specs.declared.states.Filing.{Filing}
use Rattle.job_run.specs.declared.states.Filling.{Filling}
use Rattle.job_run.specs.declared.states.Filling.TheVariants as filling
use Rattle.job_run.specs.declared.states.Order.{Order}
use Rattle.job_run.specs.declared.states.Source.{Source}
use Rattle.job_run.specs.declared.states.Source.TheVariants as source

-- a file as a node of its tree
abbrev pub filing_node : Filing → Flat
filing_node filing = file_node filing.rel filing.digest filing.exec

-- whether bytes are to be read in the store
abbrev pub is_stored : Supply → Bool
is_stored supply.Empty = false
is_stored supply.Held = false
is_stored supply.Store = true
is_stored (supply.Loan rel) = false

-- whether bytes may be read somewhere: in the store only where the row holds none, in a lent part only where one is lent
abbrev pub may_read : Method → Bool → Source → Bool
may_read way lent source.Store = is_stored (own_supply way)
may_read way lent (source.Loan rel) = lent

-- the bytes of a file are the row's, and those before an offset are put
pub record IsHeld (way : Method) (filing : Filing) (nodes : List Flat) (part : Option Part) (at : ℕ) : Type 0 where
  pub within : at ≤ length (held_bytes way)
  pub right : digest_of (held_bytes way) ≡ filing.digest
  pub grows : Grows filing.rel filing.exec nodes (take at (held_bytes way)) part

-- the bytes of a file that were given so far are put
pub record IsDue (way : Method) (lent : Bool) (filing : Filing) (nodes : List Flat) (part : Option Part) (from : Source) (reading : Reading) : Type 0 where
  pub given : List ℕ
  pub has : HasGiven reading given
  pub within : length given ≤ filing.digest.size
  pub grows : Grows filing.rel filing.exec nodes given part
  pub source : may_read way lent from ≡ true
  pub some : is_empty filing.digest ≡ false

-- behind a piece more is read, or all bytes have the digest of the file
abbrev pub Follows : Digest → List ℕ → List ℕ → Option Reading → Type 0
Follows wanted given piece None = digest_of (given ++ piece) ≡ wanted
Follows wanted given piece (Some reading) = HasGiven reading (given ++ piece) × (length piece ≡ most_bytes) × (length (given ++ piece) ≤ wanted.size)

-- a piece was given behind those that are put
pub record IsGot (way : Method) (lent : Bool) (filing : Filing) (nodes : List Flat) (part : Option Part) (from : Source) (at : ℕ) (piece : List ℕ) (more : Option Reading) : Type 0 where
  pub given : List ℕ
  pub offset : at ≡ length given
  pub last : is_last filing.digest.size (length given) ≡ not (is_some more)
  pub follows : Follows filing.digest given piece more
  pub grows : Grows filing.rel filing.exec nodes given part
  pub source : may_read way lent from ≡ true
  pub some : is_empty filing.digest ≡ false

abbrev pub IsFilling : Method → Bool → Filing → List Flat → Option Part → Filling → Type 0
IsFilling way lent filing nodes part (filling.Held at) = IsHeld way filing nodes part at
IsFilling way lent filing nodes part (filling.Due from reading) = IsDue way lent filing nodes part from reading
IsFilling way lent filing nodes part (filling.Got from at piece more) = IsGot way lent filing nodes part from at piece.items more

-- a make is at an act: the part has the nodes in front of it, and the acts behind it are left
abbrev pub IsAt : List Flat → Option Part → Order → Doing → Type 0
IsAt nodes part order (doing.Dir rel) = IsLeft order (nodes ++ dir_node rel ∷ []) × HasNodes nodes part
IsAt nodes part order (doing.Link rel target) = IsLeft order (nodes ++ link_node rel target ∷ []) × HasNodes nodes part
IsAt nodes part order (doing.File filing how) =
    IsLeft order (nodes ++ filing_node filing ∷ []) × IsFilling order.method order.lent filing nodes part how
IsAt nodes part order doing.Sync = (order.tree ≡ nodes) × HasNodes nodes part

-- a make of a tree at a path, whose region tells this part
pub record IsMaking (place : List (List ℕ)) (part : Option Part) (order : Order) (doing : Doing) : Type 0 where
  pub makeable : IsMakeable place order.tree order.method
  pub nodes : List Flat
  pub at : IsAt nodes part order doing

-- the nodes in front are put, and the acts behind them are left
pub record IsBehind (place : List (List ℕ)) (part : Option Part) (order : Order) : Type 0 where
  pub makeable : IsMakeable place order.tree order.method
  pub nodes : List Flat
  pub left : IsLeft order nodes
  pub has : HasNodes nodes part

-- the most device calls that a stage takes
abbrev pub source_cost : ℕ → Source → ℕ
source_cost size source.Store = 0
source_cost size (source.Loan rel) = again_cost size

abbrev pub filling_cost : ℕ → Filling → ℕ
filling_cost size (filling.Held at) = file_cost size at
filling_cost size (filling.Due from reading) = file_cost size reading.at + source_cost size from
filling_cost size (filling.Got from at piece more) = 2 * (size - at) + 1 + source_cost size from

abbrev pub doing_cost : Doing → ℕ
doing_cost (doing.Dir rel) = 1
doing_cost (doing.Link rel target) = 1
doing_cost (doing.File filing how) = filling_cost filing.digest.size how
doing_cost doing.Sync = 1

abbrev pub making_cost : Order → Doing → ℕ
making_cost order doing = doing_cost doing + acts_cost order.left.items

-- ---- how many files a make may still ask the store for

-- whether a row's own bytes are in the store, as a number
abbrev pub own_asks : Supply → ℕ
own_asks supply.Empty = 0
own_asks supply.Held = 0
own_asks supply.Store = 1
own_asks (supply.Loan rel) = 0

-- a file that is lent may be begun again with the row's own bytes
abbrev pub supply_asks : Method → Supply → ℕ
supply_asks way supply.Empty = 0
supply_asks way supply.Held = 0
supply_asks way supply.Store = 1
supply_asks way (supply.Loan rel) = own_asks (own_supply way)

abbrev pub act_asks : Method → Act → ℕ
act_asks way act.Wipe = 0
act_asks way (act.Dir rel) = 0
act_asks way (act.Link rel target) = 0
act_asks way (act.File rel digest exec from) = supply_asks way from
act_asks way act.Sync = 0

abbrev pub acts_asks : Method → List Act → ℕ
acts_asks way acts = sum_by (act_asks way) acts

-- a file is asked for at its first piece alone
abbrev pub reading_asks : Reading → ℕ
reading_asks reading = if reading.at == 0 then 1 else 0

abbrev pub source_asks : Method → Source → Reading → ℕ
source_asks way source.Store reading = reading_asks reading
source_asks way (source.Loan rel) reading = own_asks (own_supply way)

abbrev pub more_asks : Method → Source → Option Reading → ℕ
more_asks way from None = 0
more_asks way from (Some reading) = source_asks way from reading

abbrev pub filling_asks : Method → Filling → ℕ
filling_asks way (filling.Held at) = 0
filling_asks way (filling.Due from reading) = source_asks way from reading
filling_asks way (filling.Got from at piece more) = more_asks way from more

abbrev pub doing_asks : Method → Doing → ℕ
doing_asks way (doing.Dir rel) = 0
doing_asks way (doing.Link rel target) = 0
doing_asks way (doing.File filing how) = filling_asks way how
doing_asks way doing.Sync = 0

abbrev pub making_asks : Order → Doing → ℕ
making_asks order doing = doing_asks order.method doing + acts_asks order.method order.left.items
