-- What the code's rows are. This project's own.
use Rattle.nr_config.specs.Table.{Row}
use Rattle.nr_config.specs.declared.table.Row as code

abbrev pub row_of : code.Row → Row
row_of r = record { name = r.name.now; least = r.least; greatest = r.greatest; free = r.free; generated = r.generated }
