-- Borsh 1.0, integers, dynamic arrays and strings: a field that can't be read, as a fault of the record that it is in.
use Rattle.nr_bytes.specs.declared.fault.BytesFault.{BytesFault}
use Rattle.nr_bytes.specs.declared.fault.BytesFault.TheVariants as bytes
use Rattle.nr_records.specs.declared.fault.RecordFault.{RecordFault}
use Rattle.nr_records.specs.declared.fault.RecordFault.TheVariants as record_faults

abbrev pub record_fault : BytesFault → RecordFault
record_fault (bytes.Short at) = record_faults.Short at
record_fault (bytes.BadByte at byte) = record_faults.BadByte at byte
record_fault (bytes.BadUtf8 at) = record_faults.BadUtf8 at
record_fault bytes.Memory = record_faults.Memory
