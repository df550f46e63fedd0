-- WebAssembly Core 1.0, "Numerics", "Integer Operations": what each operation gives. A number of a type of N bits is
-- below 2 ^ N, and as a signed one it is read in two's complement. An operand counts modulo 2 ^ N, so that each
-- operation is defined on every number.
use Rattle.std.specs.Prelude.{ℕ, ◌+◌, ◌-◌, ◌*◌, ◌/◌, ◌%◌, ◌^◌, ◌==◌, ◌<◌, nat_lt, nat_le, if◌then◌else◌, Bool, not}
use Rattle.std.specs.Prelude.{◌&&◌, Result, Ok, Err, ℤ, bit_and, bit_or, bit_xor, count_ones, int_div, int_rem, int_lt}
use Rattle.std.specs.Prelude.{int_le}
use Rattle.std.specs.Int.{Width, w8, w16, w32, w64, cast_signed, cast_unsigned, int_shr, leading_zeros, trailing_zeros}
use Rattle.std.specs.Int.{rotate_left, rotate_right, from_bool}
use Rattle.nr_wasmtypes.specs.declared.instr.ValType.{ValType}
use Rattle.nr_wasmtypes.specs.declared.instr.ValType.TheVariants.{I32, I64}
use Rattle.nr_wasmtypes.specs.declared.instr.Arith.{Arith}
use Rattle.nr_wasmtypes.specs.declared.instr.Arith.TheVariants as arith
use Rattle.nr_wasmtypes.specs.declared.instr.Compare.{Compare}
use Rattle.nr_wasmtypes.specs.declared.instr.Compare.TheVariants as compare
use Rattle.nr_wasmtypes.specs.declared.instr.Count.{Count}
use Rattle.nr_wasmtypes.specs.declared.instr.Count.TheVariants as count
use Rattle.nr_wasmtypes.specs.declared.instr.Convert.{Convert}
use Rattle.nr_wasmtypes.specs.declared.instr.Convert.TheVariants as convert
use Rattle.nr_wasmtypes.specs.declared.instr.Load.{Load}
use Rattle.nr_wasmtypes.specs.declared.instr.Load.TheVariants as load
use Rattle.nr_wasmtypes.specs.Tables.{given_by_convert}
use Rattle.nr_wasmnum.specs.declared.fault.NumFault.{NumFault}
use Rattle.nr_wasmnum.specs.declared.fault.NumFault.TheVariants.{ByZero, Overflow}
use Rattle.nr_wasmnum.specs.declared.operation.BinOp.{BinOp}
use Rattle.nr_wasmnum.specs.declared.operation.BinOp.TheVariants as binary
use Rattle.nr_wasmnum.specs.declared.operation.UnOp.{UnOp}
use Rattle.nr_wasmnum.specs.declared.operation.UnOp.TheVariants as unary

-- how many bits a number of the type has
abbrev pub bits_of : ValType → ℕ
bits_of I32 = 32
bits_of I64 = 64

abbrev pub width_of : ValType → Width
width_of I32 = w32
width_of I64 = w64

-- the number of the type that stands in an operand
abbrev pub low : ValType → ℕ → ℕ
low t n = n % 2 ^ bits_of t

-- the number as a signed one, and back
abbrev pub signed : ValType → ℕ → ℤ
signed t n = cast_signed (width_of t) n

abbrev pub unsigned : ValType → ℤ → ℕ
unsigned t z = cast_unsigned (width_of t) z

-- ---- arithmetic, on numbers of the type

-- the quotient, rounded toward zero; that of the least number by -1 is 2 ^ (N - 1), which the type doesn't have
abbrev pub signed_quotient : ValType → ℕ → ℕ → Result ℕ NumFault
signed_quotient t a b =
    if b == 0 then Err ByZero
    else if a == 2 ^ (bits_of t - 1) && b == 2 ^ bits_of t - 1 then Err Overflow
    else Ok (unsigned t (int_div (signed t a) (signed t b)))

-- the remainder, with the sign of the dividend
abbrev pub signed_remainder : ValType → ℕ → ℕ → Result ℕ NumFault
signed_remainder t a b = if b == 0 then Err ByZero else Ok (unsigned t (int_rem (signed t a) (signed t b)))

-- shifts and rotations count modulo N; a signed shift to the right fills in copies of the sign
abbrev pub arith_on : ValType → Arith → ℕ → ℕ → Result ℕ NumFault
arith_on t arith.Add a b = Ok ((a + b) % 2 ^ bits_of t)
arith_on t arith.Sub a b = Ok ((a + (2 ^ bits_of t - b)) % 2 ^ bits_of t)
arith_on t arith.Mul a b = Ok ((a * b) % 2 ^ bits_of t)
arith_on t arith.DivS a b = signed_quotient t a b
arith_on t arith.DivU a b = if b == 0 then Err ByZero else Ok (a / b)
arith_on t arith.RemS a b = signed_remainder t a b
arith_on t arith.RemU a b = if b == 0 then Err ByZero else Ok (a % b)
arith_on t arith.And a b = Ok (bit_and a b)
arith_on t arith.Or a b = Ok (bit_or a b)
arith_on t arith.Xor a b = Ok (bit_xor a b)
arith_on t arith.Shl a b = Ok ((a * 2 ^ (b % bits_of t)) % 2 ^ bits_of t)
arith_on t arith.ShrS a b = Ok (unsigned t (int_shr (signed t a) (b % bits_of t)))
arith_on t arith.ShrU a b = Ok (a / 2 ^ (b % bits_of t))
arith_on t arith.Rotl a b = Ok (rotate_left (width_of t) a (b % bits_of t))
arith_on t arith.Rotr a b = Ok (rotate_right (width_of t) a (b % bits_of t))

abbrev pub arith_of : ValType → Arith → ℕ → ℕ → Result ℕ NumFault
arith_of t op a b = arith_on t op (low t a) (low t b)

-- ---- comparisons: 1 where they hold, else 0

abbrev pub holds : ValType → Compare → ℕ → ℕ → Bool
holds t compare.Equal a b = a == b
holds t compare.NotEqual a b = not (a == b)
holds t compare.LtS a b = int_lt (signed t a) (signed t b)
holds t compare.LtU a b = nat_lt a b
holds t compare.GtS a b = int_lt (signed t b) (signed t a)
holds t compare.GtU a b = nat_lt b a
holds t compare.LeS a b = int_le (signed t a) (signed t b)
holds t compare.LeU a b = nat_le a b
holds t compare.GeS a b = int_le (signed t b) (signed t a)
holds t compare.GeU a b = nat_le b a

abbrev pub compare_of : ValType → Compare → ℕ → ℕ → ℕ
compare_of t op a b = from_bool (holds t op (low t a) (low t b))

abbrev pub zero_test_of : ValType → ℕ → ℕ
zero_test_of t a = from_bool (low t a == 0)

-- ---- bits

abbrev pub count_on : ValType → Count → ℕ → ℕ
count_on t count.Clz a = leading_zeros (width_of t) a
count_on t count.Ctz a = trailing_zeros (width_of t) a
count_on t count.Popcnt a = count_ones a

abbrev pub bit_count_of : ValType → Count → ℕ → ℕ
bit_count_of t op a = count_on t op (low t a)

-- ---- changes of type

-- the lowest bits of n as a signed number, at a greater width
abbrev pub sign_extended : Width → Width → ℕ → ℕ
sign_extended narrow wide n = cast_unsigned wide (cast_signed narrow n)

abbrev pub convert_of : Convert → ℕ → ℕ
convert_of convert.Wrap a = a % 2 ^ 32
convert_of convert.ExtendS a = sign_extended w32 w64 (a % 2 ^ 32)
convert_of convert.ExtendU a = a % 2 ^ 32

-- the number that a load makes of the number that its bytes are
abbrev pub load_of : Load → ℕ → ℕ
load_of load.Full32 n = n % 2 ^ 32
load_of load.Full64 n = n % 2 ^ 64
load_of load.Signed8To32 n = sign_extended w8 w32 (n % 2 ^ 8)
load_of load.Unsigned8To32 n = n % 2 ^ 8
load_of load.Signed16To32 n = sign_extended w16 w32 (n % 2 ^ 16)
load_of load.Unsigned16To32 n = n % 2 ^ 16
load_of load.Signed8To64 n = sign_extended w8 w64 (n % 2 ^ 8)
load_of load.Unsigned8To64 n = n % 2 ^ 8
load_of load.Signed16To64 n = sign_extended w16 w64 (n % 2 ^ 16)
load_of load.Unsigned16To64 n = n % 2 ^ 16
load_of load.Signed32To64 n = sign_extended w32 w64 (n % 2 ^ 32)
load_of load.Unsigned32To64 n = n % 2 ^ 32

-- ---- all operations on two numbers and on one

abbrev pub binary_of : BinOp → ℕ → ℕ → Result ℕ NumFault
binary_of (binary.Arith t op) a b = arith_of t op a b
binary_of (binary.Compare t op) a b = Ok (compare_of t op a b)

abbrev pub unary_of : UnOp → ℕ → ℕ
unary_of (unary.IsZero t) a = zero_test_of t a
unary_of (unary.Count t op) a = bit_count_of t op a
unary_of (unary.Convert op) a = convert_of op a

-- ---- types of results

-- the type of what an operation gives
abbrev pub binary_type : BinOp → ValType
binary_type (binary.Arith t op) = t
binary_type (binary.Compare t op) = I32

abbrev pub unary_type : UnOp → ValType
unary_type (unary.IsZero t) = I32
unary_type (unary.Count t op) = t
unary_type (unary.Convert op) = given_by_convert op

-- it is a number of the type
abbrev pub IsOf : ValType → ℕ → Type 0
IsOf t n = n < 2 ^ bits_of t
