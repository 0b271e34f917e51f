-- Why a text is no path: the faults at its offsets, and the one refusal.
use Rattle.std.specs.Prelude.{ℕ, zero, suc, ◌-◌, ◌==◌, nat_lt, nat_eq, Bool, true, false, not, ◌&&◌, ◌||◌, if◌then◌else◌, List, [], ◌∷◌, length, drop, slice_index, Option, Some, None, Result, Ok, Err, position}
use Rattle.std.specs.Option.{option_or, option_map}
use Rattle.mat_path.specs.declared.path.PathRefusal.{PathRefusal}
use Rattle.mat_path.specs.declared.path.PathRefusal.TheVariants as why
use Rattle.mat_path.specs.declared.path.JoinRefusal.{JoinRefusal}
use Rattle.mat_path.specs.declared.path.JoinRefusal.TheVariants as join
use Rattle.mat_path.specs.Names.{is_text_byte, is_name_byte, is_dots, same_name, pieces}

-- a byte that may not stand in its place: no byte of a text, or a slash where a name is to begin or at the end; `begins` says whether a name is to begin here, and `more` is what follows
abbrev pub is_stray : Bool → ℕ → List ℕ → Bool
is_stray begins b more = not (is_text_byte b) || (b == 47 && (begins || nat_eq (length more) 0))

-- the bytes up to the first slash, or all
abbrev pub first_piece : List ℕ → List ℕ
first_piece [] = []
first_piece (b ∷ more) = if b == 47 then [] else b ∷ first_piece more

-- what is wrong with a whole name that begins at an offset
abbrev pub name_fault : ℕ → List ℕ → Option PathRefusal
name_fault at name = if is_dots name then Some (why.Dots at) else if nat_lt 255 (length name) then Some (why.LongName at) else None

-- what is wrong at an offset, by the bytes from there on
abbrev pub fault_here : Bool → ℕ → List ℕ → Option PathRefusal
fault_here begins at [] = None
fault_here begins at (b ∷ more) =
    if is_stray begins b more then Some (why.BadByte at)
    else if begins then name_fault at (first_piece (b ∷ more)) else None

-- whether a name is to begin at an offset: the text begins there, or a slash stands before it
abbrev pub begins_at : List ℕ → ℕ → Bool
begins_at text at = nat_eq at 0 || slice_index text (at - 1) == 47

-- what is wrong at an offset of a text
abbrev pub fault_at : List ℕ → ℕ → Option PathRefusal
fault_at text at = fault_here (begins_at text at) at (drop at text)

-- the first answer among those at 0, 1, .. below a number
abbrev pub first_answer : (ℕ → Option PathRefusal) → ℕ → Option PathRefusal
first_answer answer zero = None
first_answer answer (suc n) = option_or (first_answer answer n) (answer n)

-- the fault of the lowest offset that has one
abbrev pub first_fault : List ℕ → Option PathRefusal
first_fault text = first_answer (fault_at text) (length text)

-- why a text is no path: the first that holds of no byte, too many bytes, a fault at an offset, too many names
abbrev pub refusal_of : List ℕ → Option PathRefusal
refusal_of text =
    if nat_eq (length text) 0 then Some why.Empty
    else if nat_lt 1024 (length text) then Some why.Long
    else option_or (first_fault text) (if nat_lt 64 (length (pieces text)) then Some why.Long else None)

-- what is wrong at an offset of a text that is to be one name, where a slash is a byte like any other that a name may not have
abbrev pub name_fault_at : List ℕ → ℕ → Option PathRefusal
name_fault_at text at = if not (is_name_byte (slice_index text at)) then Some (why.BadByte at) else if nat_eq at 0 then name_fault at text else None

-- the fault of the lowest offset that has one
abbrev pub first_name_fault : List ℕ → Option PathRefusal
first_name_fault text = first_answer (name_fault_at text) (length text)

-- why a text is no name
abbrev pub name_refusal : List ℕ → Option PathRefusal
name_refusal text = if nat_eq (length text) 0 then Some why.Empty else if nat_lt 1024 (length text) then Some why.Long else first_name_fault text

-- why a text is no rel
abbrev pub rel_refusal : List ℕ → Option PathRefusal
rel_refusal text = if same_name text (46 ∷ []) then None else refusal_of text

-- why a text is no target
abbrev pub target_refusal : List ℕ → Option PathRefusal
target_refusal text =
    if nat_eq (length text) 0 then Some why.Empty
    else if nat_lt 1024 (length text) then Some why.Long
    else option_map (λ at. why.BadByte at) (position (λ b. not (is_text_byte b)) text)

-- a refusal that speaks of the text, and not of memory
abbrev pub of_text : PathRefusal → Option PathRefusal
of_text why.Empty = Some why.Empty
of_text (why.BadByte at) = Some (why.BadByte at)
of_text (why.Dots at) = Some (why.Dots at)
of_text (why.LongName at) = Some (why.LongName at)
of_text why.Long = Some why.Long
of_text why.NoMemory = None

-- what an answer says against a text
abbrev pub refused : {T : Type 0} → Result T PathRefusal → Option PathRefusal
refused (Ok x) = None
refused (Err refusal) = of_text refusal

-- whether a join was refused for the names, and not for memory
abbrev pub too_long : {T : Type 0} → Result T JoinRefusal → Bool
too_long (Ok x) = false
too_long (Err join.Long) = true
too_long (Err join.NoMemory) = false
