-- What is wrong with a value, in words that follow its path. This project's own.
use Rattle.std.specs.Prelude.{ℕ, List, codes}
use Rattle.nr_json.specs.declared.fault.Wrong.{Wrong}
use Rattle.nr_json.specs.declared.fault.Wrong.TheVariants.{Missing, NoObject, NoList, NoText, NoNumber, NoAmount}
use Rattle.nr_json.specs.declared.fault.Wrong.TheVariants.{NoBytes, NoHash, NoKey, NoAccountId, NoWhole, NoAction}
use Rattle.nr_json.specs.declared.fault.Wrong.TheVariants.{NoPermission, NoKind, NoVersion, NoPrice, NoReshard}
use Rattle.nr_json.specs.declared.fault.Wrong.TheVariants.{NoBoundaries}

abbrev pub words : Wrong → List ℕ
words Missing = codes "is missing"
words NoObject = codes "is no object"
words NoList = codes "is no list"
words NoText = codes "is no text"
words NoNumber = codes "is no whole number from 0 to 18446744073709551615"
words NoAmount = codes "is no amount: a text of decimal digits, at most 340282366920938463463374607431768211455"
words NoBytes = codes "is no text of pairs of hexadecimal digits"
words NoHash = codes "is no text of 64 hexadecimal digits"
words NoKey = codes "is no key: `ed25519:` and 64 hexadecimal digits or 32 bytes in base 58, or `secp256k1:` and 128 hexadecimal digits"
words NoAccountId = codes "is no account id: 2 to 64 characters, of `a` to `z` and `0` to `9`, and single `-`, `_` or `.` between these"
words NoWhole = codes "has a number that is no whole one of 64 bits: it may stand in a `text`"
words NoAction = codes "is no action: `CreateAccount`, `DeployContract`, `FunctionCall`, `Transfer`, `AddKey`, `DeleteKey` or `DeleteAccount`"
words NoPermission = codes "is no permission: `FullAccess` or `FunctionCall`"
words NoKind = codes "is no kind of entry: `account`, `code`, `key` or `datum`"
words NoVersion = codes "is no version: 1, 2 or 3"
words NoPrice = codes "is in no block of version 1"
words NoReshard = codes "is in no file of version 1 or 2"
words NoBoundaries = codes "are more than 15, or one isn't above the one before it"
