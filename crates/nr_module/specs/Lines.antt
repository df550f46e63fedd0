-- The line that tells what a file is or how a run of a method ended, and whether that is well. This project's own.
use Rattle.std.specs.Prelude.{ℕ, List, [], ◌∷◌, ◌++◌, codes, decimal}
use Rattle.nr_wasmbin.specs.Kinds.{decode_kind, decode_place}
use Rattle.nr_wasmbin.specs.declared.fault.DecodeFault.{DecodeFault}
use Rattle.nr_wasmvalid.specs.Kinds.{valid_func, valid_kind, valid_place}
use Rattle.nr_wasmvalid.specs.declared.fault.ValidFault.{ValidFault}
use Rattle.nr_module.specs.declared.verdict.Answer.{Answer}
use Rattle.nr_module.specs.declared.verdict.Answer.TheVariants.{Good, Unfit, NoMethod, Unmade, Ended, Trapped, Failed}
use Rattle.nr_module.specs.declared.verdict.Answer.TheVariants.{OutOfGas, TrappedAt}
use Rattle.nr_module.specs.declared.verdict.Rating.{Rating}
use Rattle.nr_module.specs.declared.verdict.Rating.TheVariants as rating
use Rattle.nr_module.specs.declared.verdict.Verdict.{Verdict}
use Rattle.nr_module.specs.declared.verdict.Verdict.TheVariants.{Undecoded, Invalid, Done}

-- a kind and numbers in decimal behind a word, parted by single spaces
abbrev pub decode_line : ℕ → ℕ → List ℕ
decode_line kind at = codes "decode" ++ 32 ∷ decimal kind ++ 32 ∷ decimal at ++ 10 ∷ []

abbrev pub valid_line : ℕ → ℕ → ℕ → List ℕ
valid_line kind func place = codes "valid" ++ 32 ∷ decimal kind ++ 32 ∷ decimal func ++ 32 ∷ decimal place ++ 10 ∷ []

-- a fault's kind, and its place
abbrev pub decode_text : DecodeFault → List ℕ
decode_text fault = decode_line (decode_kind fault) (decode_place fault)

abbrev pub valid_text : ValidFault → List ℕ
valid_text fault = valid_line (valid_kind fault) (valid_func fault) (valid_place fault)

-- a word and the gas that was burnt, and the same with a kind between them
abbrev pub burnt_line : List ℕ → ℕ → List ℕ
burnt_line word burnt = word ++ 32 ∷ decimal burnt ++ 10 ∷ []

abbrev pub stop_line : List ℕ → ℕ → ℕ → List ℕ
stop_line word kind burnt = word ++ 32 ∷ decimal kind ++ 32 ∷ decimal burnt ++ 10 ∷ []

-- the number of a function, and a place of the file
abbrev pub place_line : ℕ → ℕ → List ℕ
place_line func at = codes "at" ++ 32 ∷ decimal func ++ 32 ∷ decimal at ++ 10 ∷ []

abbrev pub trap_lines : ℕ → ℕ → ℕ → ℕ → List ℕ
trap_lines kind burnt func at = stop_line (codes "trap") kind burnt ++ place_line func at

abbrev pub answer_text : Answer → List ℕ
answer_text Good = codes "ok" ++ 10 ∷ []
answer_text Unfit = codes "ok" ++ 10 ∷ []
answer_text (Ended burnt) = burnt_line (codes "end") burnt
answer_text (Trapped kind burnt) = stop_line (codes "trap") kind burnt
answer_text (TrappedAt kind burnt func at) = trap_lines kind burnt func at
answer_text (Failed kind burnt) = stop_line (codes "fault") kind burnt
answer_text (OutOfGas burnt) = burnt_line (codes "gas") burnt
answer_text Unmade = codes "make 21" ++ 10 ∷ []
answer_text NoMethod = codes "method" ++ 10 ∷ []

abbrev pub verdict_text : Verdict → List ℕ
verdict_text (Done a) = answer_text a
verdict_text (Undecoded fault) = decode_text fault
verdict_text (Invalid fault) = valid_text fault

-- ---- how well it is: a valid module, of which a machine can be made or can't, a run that came to its end, or none
-- of them
abbrev pub rated_answer : Answer → Rating
rated_answer Good = rating.Sound
rated_answer Unfit = rating.Unfit
rated_answer (Ended burnt) = rating.Sound
rated_answer (Trapped kind burnt) = rating.Faulty
rated_answer (TrappedAt kind burnt func at) = rating.Faulty
rated_answer (Failed kind burnt) = rating.Faulty
rated_answer (OutOfGas burnt) = rating.Faulty
rated_answer Unmade = rating.Faulty
rated_answer NoMethod = rating.Faulty

abbrev pub rated : Verdict → Rating
rated (Done a) = rated_answer a
rated (Undecoded fault) = rating.Faulty
rated (Invalid fault) = rating.Faulty
