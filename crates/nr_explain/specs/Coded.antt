-- What the code's forms are. This project's own.
use Rattle.std.specs.Prelude.{List, map}
use Rattle.nr_explain.specs.Entries.{Bounds}
use Rattle.nr_explain.specs.Forms.{Kind, Word, Figure, Number, Amount, Hash, Bytes, Entry, Name, Field, Form}
use Rattle.nr_explain.specs.declared.form.Kind as code
use Rattle.nr_explain.specs.declared.form.Kind.TheVariants as kinds
use Rattle.nr_explain.specs.declared.form.Field as code_field
use Rattle.nr_explain.specs.declared.entries.Bounds as code_bounds

abbrev pub kind_of : code.Kind → Kind
kind_of (kinds.Word this) = Word this.now
kind_of (kinds.Figure this) = Figure this.now
kind_of kinds.Number = Number
kind_of kinds.Amount = Amount
kind_of kinds.Hash = Hash
kind_of kinds.Bytes = Bytes
kind_of kinds.Entry = Entry
kind_of kinds.Name = Name

abbrev pub field_of : code_field.Field → Field
field_of f = record { kind = kind_of f.kind; text = f.text.now }

abbrev pub form_in : List code_field.Field → Form
form_in fields = map field_of fields

abbrev pub bounds_in : code_bounds.Bounds → Bounds
bounds_in b = record { name = b.name.now; least = b.least; greatest = b.greatest }
