-- The built-in configurations are the columns of the code's rows, and valid.
use Rattle.std.proofs.Common.{◌≡◌, List, map, refl, sym, ap, ◌∙◌, lit≤}
use Rattle.std.proofs.lemmas.Simd.{map-map}
use Rattle.nr_config.specs.Table.{Row, table}
use Rattle.nr_config.specs.Rows.{row_of}
use Rattle.nr_config.specs.Config.{free, generated, IsValidConfig}
use Rattle.nr_config.specs.declared.table.Row as code
use Rattle.nr_config.proofs.Valid.{valid, tested}

pub free_is_valid : IsValidConfig free
unfolding free table
free_is_valid = valid free (tested table free refl) (lit≤ tt)

pub generated_is_valid : IsValidConfig generated
unfolding generated table
generated_is_valid = valid generated (tested table generated refl) (lit≤ tt)

pub free_from_rows : (rows : List code.Row) → map row_of rows ≡ table → map (λ (r : code.Row). r.free) rows ≡ free
unfolding free
free_from_rows rows e = sym (map-map (λ (r : Row). r.free) row_of rows) ∙ ap (map (λ (r : Row). r.free)) e

pub generated_from_rows : (rows : List code.Row) → map row_of rows ≡ table → map (λ (r : code.Row). r.generated) rows ≡ generated
unfolding generated
generated_from_rows rows e = sym (map-map (λ (r : Row). r.generated) row_of rows) ∙ ap (map (λ (r : Row). r.generated)) e
