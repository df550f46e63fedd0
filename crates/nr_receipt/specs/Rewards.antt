-- The reward of an account whose code ran: a part of the gas that its calls burnt, in tokens. After the Nomicon,
-- Economics (Contract rewards); the rounding is this project's.
use Rattle.std.specs.Prelude.{ℕ, ◌*◌, ◌/◌, ◌==◌, cond, List, Option, Some, None}
use Rattle.std.specs.FinMap.{get}
use Rattle.nr_actions.specs.Accounts.{with_deposit}
use Rattle.nr_actions.specs.declared.frame.Frame.{Frame}
use Rattle.nr_config.specs.Config.{Config, reward_numerator, reward_denominator}
use Rattle.nr_receipt.specs.Frames.{burning_price}
use Rattle.nr_records.specs.declared.account.Account.{Account}
use Rattle.nr_state.specs.World.{World, with_account}

-- the part of all that the calls burnt, rounded down once, and then in tokens
abbrev pub reward_gas : Config → ℕ → ℕ
reward_gas c burnt = burnt * reward_numerator c / reward_denominator c

abbrev pub reward_of : Config → Frame → ℕ
reward_of c f = reward_gas c f.call_burnt * burning_price f

-- it goes to the receiver where that stands; else it is burnt
abbrev pub paid_to : Option Account → ℕ → ℕ
paid_to None reward = 0
paid_to (Some account) reward = reward

abbrev pub richer : World → List ℕ → Option Account → ℕ → World
richer w id None reward = w
richer w id (Some account) reward = with_account w id (with_deposit account reward)

-- a reward of nothing changes nothing
abbrev pub with_reward : World → List ℕ → ℕ → World
with_reward w id reward = cond (reward == 0) w (richer w id (get w.accounts id) reward)

abbrev pub reward_paid : World → List ℕ → ℕ → ℕ
reward_paid w id reward = paid_to (get w.accounts id) reward
