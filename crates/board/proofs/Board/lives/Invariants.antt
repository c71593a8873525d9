-- The lives so far stand in the table.
use Rattle.std.proofs.Common.{◌≡◌, ℕ, ◌<◌, length, get_or, None}
use Rattle.board.specs.Boards.{life_on}
use Rattle.board.proofs.Board.lives.Given as goal

abbrev pub invariant-loop-o : goal.invariant-loop-o
invariant-loop-o g l = (length l.lives ≡ 64) × ((x : ℕ) → x < l.o → get_or l.lives x None ≡ life_on g.L.PriceList.prices l.self x)
