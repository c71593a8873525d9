-- The number and the place of each refusal, and the line by which a program tells it.
use Rattle.std.specs.Prelude.{ℕ, List, ◌++◌, codes, decimal}
use Rattle.faults.specs.declared.Fault.{Fault}
use Rattle.faults.specs.declared.Fault.TheVariants.{UnknownCommand, CutShort, OutOfOrder, TooMany, OutOfRange, NamesNothing, FaultyList, CallOutOfRange, AlreadyThere, NotThere, StillServing, TooNarrow, TooLate, NotReady, UnitBusy, RegisterBusy, NoTime, BufferTooShort, SampleCount, OutOfMemory}
use Rattle.faults.specs.declared.Maker.{Maker}
use Rattle.faults.specs.declared.Maker.TheVariants.{Formula, Table, Grain, Wait}
use Rattle.faults.specs.declared.Place.{Place}
use Rattle.faults.specs.declared.Place.TheVariants.{At, Row}

abbrev pub number_of : Fault → ℕ
number_of OutOfMemory = 0
number_of (UnknownCommand at) = 1
number_of (CutShort at) = 2
number_of (OutOfOrder at) = 3
number_of (TooMany at) = 4
number_of (OutOfRange at) = 5
number_of (NamesNothing at) = 6
number_of (FaultyList maker row) = 7
number_of (CallOutOfRange operand) = 8
number_of (AlreadyThere operand) = 9
number_of (NotThere operand) = 10
number_of (StillServing operation) = 11
number_of (TooNarrow operand) = 12
number_of (TooLate finish) = 13
number_of (NotReady operation) = 14
number_of (UnitBusy operation) = 15
number_of (RegisterBusy register) = 16
number_of (NoTime operation) = 18
number_of (BufferTooShort needed) = 19
number_of (SampleCount wanted) = 21

-- the number of a maker of price lists
abbrev pub maker_number : Maker → ℕ
maker_number Formula = 0
maker_number Table = 1
maker_number Grain = 2
maker_number Wait = 3

abbrev pub place_of : Fault → Place
place_of OutOfMemory = At 0
place_of (UnknownCommand at) = At at
place_of (CutShort at) = At at
place_of (OutOfOrder at) = At at
place_of (TooMany at) = At at
place_of (OutOfRange at) = At at
place_of (NamesNothing at) = At at
place_of (FaultyList maker row) = Row maker row
place_of (CallOutOfRange operand) = At operand
place_of (AlreadyThere operand) = At operand
place_of (NotThere operand) = At operand
place_of (StillServing operation) = At operation
place_of (TooNarrow operand) = At operand
place_of (TooLate finish) = At finish
place_of (NotReady operation) = At operation
place_of (UnitBusy operation) = At operation
place_of (RegisterBusy register) = At register
place_of (NoTime operation) = At operation
place_of (BufferTooShort needed) = At needed
place_of (SampleCount wanted) = At wanted

-- a place as it is written behind a space
abbrev pub place_text : Place → List ℕ
place_text (At n) = decimal n
place_text (Row maker row) = decimal maker ++ (codes " " ++ decimal row)

-- `refused`, the number and the place
abbrev pub line_of : Fault → List ℕ
line_of f = codes "refused " ++ (decimal (number_of f) ++ (codes " " ++ place_text (place_of f)))
