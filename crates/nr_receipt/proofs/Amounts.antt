-- The numbers of an execution: gas, rewards and what receipts hold.
use Rattle.std.proofs.Common.{◌≡◌, ℕ, ◌+◌, ◌-◌, ◌*◌, ◌≤◌, min, Bool, true, false, cond, List, take, refl, ap, arith, add-mul}
use Rattle.std.proofs.Math.Nat.{div-le_of_le-mul, min-le_left, zero-min}
use Rattle.std.proofs.lemmas.List.Sums.{sum_by-take-le}
use Rattle.std.proofs.lemmas.Nat.{mul-le}
use Rattle.nr_actions.specs.Calling.{price_of}
use Rattle.nr_actions.specs.declared.frame.Frame.{Frame}
use Rattle.nr_config.specs.Config.{Config, reward_numerator, reward_denominator}
use Rattle.nr_fees.specs.Fees.{act_gas, action_fee, attached_gas, exec_gas, prepaid_gas}
use Rattle.nr_fees.specs.declared.table.Payment.TheVariants.{Execute}
use Rattle.nr_ids.specs.Grammar.{is_system}
use Rattle.nr_receipt.specs.Frames.{burning_price, burnt_gas, gas_back, prepaid}
use Rattle.nr_receipt.specs.Rewards.{reward_gas, reward_of}
use Rattle.nr_records.specs.declared.action.Action.{Action}

-- ---- rewards
pub reward_less : (c : Config) → reward_numerator c ≤ reward_denominator c → (burnt : ℕ) → reward_gas c burnt ≤ burnt
reward_less c h burnt =
    let le : burnt * reward_numerator c ≤ burnt * reward_denominator c = mul-le burnt (reward_numerator c) burnt (reward_denominator c) (omega arith) h in
    div-le_of_le-mul (reward_denominator c) (omega (arith, le))

pub reward_within : (c : Config) → reward_numerator c ≤ reward_denominator c → (f : Frame) → reward_of c f ≤ f.call_burnt * burning_price f
reward_within c h f = mul-le (reward_gas c f.call_burnt) (burning_price f) f.call_burnt (burning_price f) (reward_less c h f.call_burnt) (omega arith)

-- ---- gas, by whether the receipt is the system's
executing_less : (c : Config) (actions : List Action) (n : ℕ) → exec_gas c (take n actions) ≤ exec_gas c actions
executing_less c actions n = omega (arith, sum_by-take-le (action_fee c Execute) actions n)

burnt_by : (c : Config) (actions : List Action) (n call : ℕ) (b : Bool) → call ≤ attached_gas actions → cond b 0 (exec_gas c (take n actions) + call) ≤ act_gas c b actions
burnt_by c actions n call true h = omega arith
burnt_by c actions n call false h = omega (arith, h, executing_less c actions n)

pub burnt_within : (c : Config) (f : Frame) (n : ℕ) → f.call_burnt ≤ attached_gas f.act.actions → burnt_gas c f n ≤ prepaid c f
burnt_within c f n h = burnt_by c f.act.actions n f.call_burnt (is_system f.predecessor) h

-- gas is burnt for no more than it was bought for
pub burns_less : (f : Frame) (gas : ℕ) → gas * burning_price f ≤ gas * price_of f
burns_less f gas = mul-le gas (burning_price f) gas (price_of f) (omega arith) (min-le_left (price_of f) f.place.price)

call_by : (executing call price block : ℕ) (b : Bool) → call * min (cond b 0 price) block ≤ cond b 0 (executing + call) * min (cond b 0 price) block
call_by executing call price block true =
    let free : call * min 0 block ≡ call * 0 = ap (λ n. call * n) (zero-min block) in
    omega (arith, free)
call_by executing call price block false = mul-le call (min price block) (executing + call) (min price block) (omega arith) (omega arith)

-- what calls burnt is paid for with the burnt gas
pub call_paid : (c : Config) (f : Frame) (n : ℕ) → f.call_burnt * burning_price f ≤ burnt_gas c f n * burning_price f
call_paid c f n = call_by (exec_gas c (take n f.act.actions)) f.call_burnt f.act.gas_price f.place.price (is_system f.predecessor)

attached_by : (c : Config) (actions : List Action) (price : ℕ) (b : Bool) → attached_gas actions * cond b 0 price ≤ act_gas c b actions * cond b 0 price
attached_by c actions price true = omega arith
attached_by c actions price false = mul-le (attached_gas actions) price (prepaid_gas c actions) price (omega arith) (omega arith)

-- the attached gas is paid for
pub attached_paid : (c : Config) (f : Frame) → attached_gas f.act.actions * price_of f ≤ prepaid c f * price_of f
attached_paid c f = attached_by c f.act.actions f.act.gas_price (is_system f.predecessor)

small_by : (c : Config) (actions : List Action) (b : Bool) → b ≡ false → attached_gas actions ≤ act_gas c b actions
small_by c actions true e = absurd cc
small_by c actions false e = omega arith

pub attached_less : (c : Config) (f : Frame) → is_system f.predecessor ≡ false → attached_gas f.act.actions ≤ prepaid c f
attached_less c f e = small_by c f.act.actions (is_system f.predecessor) e

spent_by : (c : Config) (actions : List Action) (n call promised price block : ℕ) (b : Bool) → call + promised ≤ attached_gas actions
    → cond b 0 (exec_gas c (take n actions) + call) * min (cond b 0 price) block
    + ((act_gas c b actions - promised) * cond b 0 price - cond b 0 (exec_gas c (take n actions) + call) * min (cond b 0 price) block)
    + promised * cond b 0 price ≡ act_gas c b actions * cond b 0 price
spent_by c actions n call promised price block true h = omega arith
spent_by c actions n call promised price block false h =
    let gas : ℕ = exec_gas c (take n actions) + call in
    let kept : ℕ = prepaid_gas c actions - promised in
    let within : gas * min price block ≤ kept * price = mul-le gas (min price block) kept price (omega (arith, h, executing_less c actions n)) (min-le_left price block) in
    let all : kept + promised ≡ prepaid_gas c actions = omega (arith, h) in
    let paid : (kept + promised) * price ≡ prepaid_gas c actions * price = ap (λ m. m * price) all in
    omega (arith, within, add-mul kept promised price, paid)

-- what is burnt, what goes back and what was promised are what was paid for
pub all_spent : (c : Config) (f : Frame) (n : ℕ) → f.call_burnt + f.promised ≤ attached_gas f.act.actions
    → burnt_gas c f n * burning_price f + gas_back c f (burnt_gas c f n) + f.promised * price_of f ≡ prepaid c f * price_of f
all_spent c f n h = spent_by c f.act.actions n f.call_burnt f.promised f.act.gas_price f.place.price (is_system f.predecessor) h

paid_by : (gas price : ℕ) (b : Bool) → cond b 0 gas * cond b 0 price ≡ cond b 0 (gas * price)
paid_by gas price true = refl
paid_by gas price false = refl

-- the tokens of a receipt's gas
pub gas_tokens : (c : Config) (f : Frame) → prepaid c f * price_of f ≡ cond (is_system f.predecessor) 0 (prepaid_gas c f.act.actions * f.act.gas_price)
gas_tokens c f = paid_by (prepaid_gas c f.act.actions) f.act.gas_price (is_system f.predecessor)
