-- What a command runs to its end, and what is written of it. This project's own.
use Rattle.std.specs.Prelude.{◌≡◌, ℕ, List, Result, IfOk}
use Rattle.std.specs.declared.alloc.AllocError.{AllocError}
use Rattle.nr_blocks.specs.Genesis.{IsSoundGenesis}
use Rattle.nr_course.specs.Course.{CanRun}
use Rattle.nr_course.specs.Texts.{course_text}
use Rattle.nr_top.specs.Generated.{generated_text}
use Rattle.nr_top.specs.Run.{loaded}
use Rattle.nr_top.specs.declared.work.Work.{Work}
use Rattle.nr_top.specs.declared.work.Work.TheVariants as work
use Rattle.nr_words.specs.Words.{CanGenerate}

abbrev pub CanWork : Work → Type 0
CanWork (work.Chain files) = IsSoundGenesis files.config files.genesis × CanRun (loaded files)
CanWork (work.Generated start shards blocks) = CanGenerate shards blocks

-- the report of a chain, and the lines of a generated one
abbrev pub work_text : Work → List ℕ
work_text (work.Chain files) = course_text (loaded files)
work_text (work.Generated start shards blocks) = generated_text start shards blocks

-- a function that may be called for each work
abbrev pub Runs : (Work → Type 0) → Type 0
Runs pre = (w : Work) → CanWork w → pre w

-- and that gives its text, if it gives one
abbrev pub IsRight : (Work → Result (List ℕ) AllocError → Type 0) → Type 0
IsRight post = (w : Work) (r : Result (List ℕ) AllocError) → CanWork w → post w r → IfOk r (λ text. text ≡ work_text w)
