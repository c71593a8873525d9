-- What reading a sheet comes to, without its steps.
use Rattle.std.specs.Prelude.{◌≡◌, ℕ, ◌≤◌, List, length, Ok, Err}
use Rattle.faults.specs.Faults.{number_of, place_of}
use Rattle.faults.specs.declared.Fault.{Fault}
use Rattle.faults.specs.declared.Place.TheVariants.{At}
use Rattle.graphs.specs.Graphs.{Graph, WellFormed}
use Rattle.graphs.specs.Reading.{read}
use Rattle.graphs.specs.Writing.{write}

-- a refusal by the rules of a sheet of so many bytes: a number from 1 to 6, at a position that is not past the length
pub record PlacedFault (bytes : ℕ) (f : Fault) : Type 0 where
  pub least : 1 ≤ number_of f
  pub most : number_of f ≤ 6
  pub position : ℕ
  pub there : place_of f ≡ At position
  pub inside : position ≤ bytes

-- a string is read as the graph G exactly if G is well-formed and the string is its own writing
pub record ReadingLaw (bs : List ℕ) : Type 0 where
  pub formed : (G : Graph) → read bs ≡ Ok G → WellFormed G
  pub written : (G : Graph) → read bs ≡ Ok G → bs ≡ write G
  pub every : (G : Graph) → WellFormed G → bs ≡ write G → read bs ≡ Ok G
  pub refused : (f : Fault) → read bs ≡ Err f → PlacedFault (length bs) f
