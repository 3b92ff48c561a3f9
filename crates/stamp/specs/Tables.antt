-- 02, P6: the tables of the byte engine, the check's and those of insertion. Assumes nothing.
use Rattle.table.specs.Table.{check_table}
use Rattle.stamp.specs.declared.Tables.{Tables}
use Rattle.stamp.specs.Stamp.{stamp_table, four_table}

abbrev pub right_tables : Tables
right_tables = record { checks = check_table; stamps = stamp_table; fours = four_table }
