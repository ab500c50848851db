-- A table of one, two or three axes. Source: own.
use Rattle.rt_check_dump.specs.declared.dump.AnyShadow.TheVariants as shadow
use Rattle.rt_table.specs.declared.any_table.Axes.{Axes}
use Rattle.rt_table.specs.declared.any_table.Axes.TheVariants.{One, Two, Three}
use Rattle.rt_table.specs.Held.{TableAndTree}

abbrev pub held_by : Axes → TableAndTree
held_by (One table) = record { lists = table.lists; tree = shadow.One table.tree }
held_by (Two table) = record { lists = table.lists; tree = shadow.Two table.tree }
held_by (Three table) = record { lists = table.lists; tree = shadow.Three table.tree }
