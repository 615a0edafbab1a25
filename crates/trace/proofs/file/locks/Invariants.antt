use Rattle.std.proofs.Common.{◌≡◌, ◌+◌, ◌≤◌, map, length}
use Rattle.trace.specs.Entries.{shown}
use Rattle.trace.specs.Section.{laid_in}
use Rattle.trace.specs.Standing.{free}
use Rattle.format.specs.Standings.{kind_table, written}
use Rattle.format.proofs.Tables.{kinds_laid}
use Rattle.trace.proofs.Locks.{kinds}
use Rattle.trace.proofs.file.locks.Given as goal

-- nobody holds an object, and what is still to be written into their kinds makes these the whole table
abbrev pub invariant-loop-i : goal.invariant-loop-i
invariant-loop-i l = record {
  can : (goal.iterator-loop-i).can_next l.i-iterator;
  finite : (goal.iterator-loop-i).is_finite l.i-iterator;
  few : length (shown l.i-iterator.iter) + l.i-iterator.count ≤ 512;
  all : l.table ≡ map free (kinds l.table);
  whole : written (kinds l.table) l.i-iterator.count (kinds_laid (shown l.i-iterator.iter)) ≡ kind_table (kinds_laid (laid_in l.fn.objects));
}
