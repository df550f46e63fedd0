-- Receipts that give tokens back: from the system, with one transfer, and without gas. After the Nomicon, Runtime
-- Specification, Refunds.
use Rattle.std.specs.Prelude.{ℕ, List, [], ◌∷◌, replicate}
use Rattle.nr_ids.specs.Grammar.{system}
use Rattle.nr_ids.specs.declared.key.Hash32.{Hash32}
use Rattle.nr_ids.specs.declared.key.PublicKey.{PublicKey}
use Rattle.nr_ids.specs.declared.key.PublicKey.TheVariants.{Ed25519}
use Rattle.nr_records.specs.declared.action.Action.TheVariants.{Transfer}
use Rattle.nr_records.specs.declared.receipt.Body.{Body}
use Rattle.nr_records.specs.declared.receipt.Body.TheVariants.{Act}
use Rattle.nr_records.specs.declared.receipt.Receipt.{Receipt}

abbrev pub refund_body : List ℕ → PublicKey → ℕ → Body
refund_body signer key amount =
    Act (record {
      signer = signer;
      signer_key = key;
      gas_price = 0;
      outputs = [];
      inputs = [];
      actions = Transfer amount ∷ [];
    })

abbrev pub refund : List ℕ → Hash32 → List ℕ → PublicKey → ℕ → Receipt
refund receiver id signer key amount =
    record {
      predecessor = system;
      receiver = receiver;
      receipt_id = id;
      body = refund_body signer key amount;
    }

-- a refund that goes back to no transaction's signer
abbrev pub deposit_refund : List ℕ → Hash32 → ℕ → Receipt
deposit_refund receiver id amount = refund receiver id system (Ed25519 (replicate 32 0)) amount
