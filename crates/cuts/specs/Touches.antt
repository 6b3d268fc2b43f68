-- What a call does to one cell: what it needs of the content before it, and what it leaves there. A
-- cell contains a value, or none.
use Rattle.cuts.specs.declared.touches.Need.{Need}
use Rattle.cuts.specs.declared.touches.Leave.{Leave}
use Rattle.cuts.specs.declared.touches.Touch.{Touch}

-- what a call does to a cell that needs this of the content before it, and leaves this
abbrev pub touch : Need → Leave → Touch
touch need leave = record { need = need; leave = leave }
