-- The two sides of a connection, resolved.
use Rattle.std.specs.Prelude.{ℕ, ◌≡◌, List, Option, Some}
use Rattle.ak_cells.specs.declared.cell.Cell.{Cell}
use Rattle.ak_cells.specs.declared.links.Sides.{Sides}
use Rattle.ak_cells.specs.Rows.{row_at}
use Rattle.ak_cells.specs.Forest.{IsForest, Shortened, end_in}

-- the ends of a result and of a right side, with the cells there, once links lead to their ends
pub record AreResolved (old new : List (Option Cell)) (r s : ℕ) (sides : Sides) : Type 0 where
  pub forest : IsForest new
  pub shortened : Shortened old new
  pub to_end : sides.to.end ≡ end_in old r
  pub from_end : sides.from.end ≡ end_in old s
  pub to_cell : row_at sides.to.end new ≡ Some sides.to.cell
  pub from_cell : row_at sides.from.end new ≡ Some sides.from.cell
