-- The line of a refused transaction: the refusal's number, and its fields in order with zeros for the rest. This
-- project's own numbers.
use Rattle.nr_ids.specs.declared.key.Hash32.{Hash32}
use Rattle.nr_records.specs.declared.chunk_result.ChunkLine.{ChunkLine}
use Rattle.nr_records.specs.declared.chunk_result.ChunkLine.TheVariants.{TxRefused}
use Rattle.nr_txconvert.specs.declared.fault.TxFault.{TxFault}
use Rattle.nr_txconvert.specs.declared.fault.TxFault.TheVariants.{NoSigner, NoKey, Nonce, TooManyActions, GasTooLarge}
use Rattle.nr_txconvert.specs.declared.fault.TxFault.TheVariants.{KeyForbids, CostOverflow, Allowance, Balance}
use Rattle.nr_txconvert.specs.declared.fault.TxFault.TheVariants.{StorageStake, Memory}

abbrev pub refused : Hash32 → TxFault → ChunkLine
refused hash NoSigner = TxRefused hash 1 0 0
refused hash NoKey = TxRefused hash 2 0 0
refused hash (Nonce key tx) = TxRefused hash 3 key tx
refused hash TooManyActions = TxRefused hash 4 0 0
refused hash GasTooLarge = TxRefused hash 5 0 0
refused hash (KeyForbids part) = TxRefused hash 6 part 0
refused hash CostOverflow = TxRefused hash 7 0 0
refused hash (Allowance has needs) = TxRefused hash 8 has needs
refused hash (Balance has needs) = TxRefused hash 9 has needs
refused hash (StorageStake has needs) = TxRefused hash 10 has needs
refused hash Memory = TxRefused hash 0 0 0
