-- The texts of numbers, ASes and hosts. Each value has one text, which is printed and which alone is read.
use Rattle.std.specs.Prelude.{◌≡◌, ℕ, ◌+◌, ◌*◌, ◌/◌, ◌%◌, ◌^◌, ◌<◌, ◌≤◌, Bool, false, ◌&&◌, ◌||◌, not, List, [], ◌∷◌, ◌++◌, length, take, drop, Option, Some, None, option_map, option_and_then, decimal, nat_lt, nat_le, ◌==◌, if◌then◌else◌, position}
use Rattle.std.specs.Char.{is_digit, is_ascii_uppercase}
use Rattle.std.specs.Fmt.{digits}
use Rattle.std.specs.List.{list_all}
use Rattle.std.specs.Option.{option_or, option_zip}
use Rattle.std.specs.Str.Parse.{digits_value}
use Rattle.epic_num.specs.declared.name.HostId.{HostId}

-- `-` between the two parts of an AS
abbrev pub dash : ℕ
dash = 45

-- `:` between the three groups of a large AS number
abbrev pub colon : ℕ
colon = 58

-- `,` between the AS and the number of a host
abbrev pub comma : ℕ
comma = 44

-- `0`
abbrev pub zero_digit : ℕ
zero_digit = 48

-- The isolation domain of an AS, in the upper 16 bits, and its number there, in the lower 48.
abbrev pub isd_part : ℕ → ℕ
isd_part a = a / 2 ^ 48

abbrev pub as_part : ℕ → ℕ
as_part a = a % 2 ^ 48

-- lower-case hexadecimal digits without leading zeros
abbrev pub hexadecimal : ℕ → List ℕ
hexadecimal n = digits 16 false n

-- a number from 2 ^ 32 on, as three groups of 16 bits with colons between them
abbrev pub groups_text : ℕ → List ℕ
groups_text n = hexadecimal (n / 2 ^ 32) ++ (colon ∷ (hexadecimal (n / 2 ^ 16 % 2 ^ 16)
    ++ (colon ∷ hexadecimal (n % 2 ^ 16))))

-- the number of an AS, in one of two forms by its size
abbrev pub as_part_text : ℕ → List ℕ
as_part_text n = if nat_lt n (2 ^ 32) then decimal n else groups_text n

-- the text of an AS
unfoldable pub as_text : ℕ → List ℕ
as_text a = decimal (isd_part a) ++ (dash ∷ as_part_text (as_part a))

-- its isolation domain and its number there are this or more
abbrev pub IsFrom : ℕ → ℕ → Type 0
IsFrom least a = (a < 2 ^ 64) × (least ≤ isd_part a) × (least ≤ as_part a)

-- an AS that a script or a topology can name: neither its isolation domain nor its number there is 0
abbrev pub IsReadable : ℕ → Type 0
IsReadable a = IsFrom 1 a

-- the text of a host
unfoldable pub host_text : HostId → List ℕ
host_text h = as_text h.asn.0 ++ (comma ∷ decimal h.host)

-- a host of such an AS
abbrev pub IsHostFrom : ℕ → HostId → Type 0
IsHostFrom least h = IsFrom least h.asn.0 × (h.host < 2 ^ 32)

abbrev pub IsReadableHost : HostId → Type 0
IsReadableHost h = IsHostFrom 1 h

-- a digit of the base, if a letter then in lower case
abbrev pub is_digit_of : ℕ → ℕ → Bool
is_digit_of base c = is_digit c base && not (is_ascii_uppercase c)

-- digits of the base, at least one, and a zero in front only where it is the whole
abbrev pub is_numeral : ℕ → List ℕ → Bool
is_numeral base [] = false
is_numeral base (c ∷ cs) = list_all (is_digit_of base) (c ∷ cs)
    && (not (c == zero_digit) || length cs == 0)

-- the number that such digits write
abbrev pub numeral_of : ℕ → List ℕ → Option ℕ
numeral_of base text = if is_numeral base text then Some (digits_value base text) else None

-- a number in these bounds
abbrev pub within : ℕ → ℕ → Option ℕ → Option ℕ
within least most None = None
within least most (Some n) = if nat_le least n && nat_le n most then Some n else None

-- the text writes this number, or is empty where there is none yet
abbrev pub Writes : ℕ → ℕ → ℕ → List ℕ → Option ℕ → Type 0
Writes base least most text None = text ≡ []
Writes base least most text (Some n) = within least most (numeral_of base text) ≡ Some n

-- the decimal number that the text writes
abbrev pub number_of : List ℕ → Option ℕ
number_of text = numeral_of 10 text

-- such a number of at most `most`
unfoldable pub number_within : ℕ → List ℕ → Option ℕ
number_within most text = within 0 most (number_of text)

-- what one form reads before the first mark, and what another reads after it
abbrev pub parted : {A B : Type 0} → ℕ → (List ℕ → Option A) → (List ℕ → Option B) → List ℕ → Option (A × B)
parted mark before after text =
    option_and_then (λ i. option_zip (before (take i text)) (after (drop (i + 1) text)))
    (position (λ c. c == mark) text)

-- the same of two numbers, the first of this weight
abbrev pub joined : ℕ → ℕ → (List ℕ → Option ℕ) → (List ℕ → Option ℕ) → List ℕ → Option ℕ
joined mark weight before after text =
    option_map (λ p. p.0 * weight + p.1) (parted mark before after text)

-- an isolation domain: at most 65,535
abbrev pub isd_of : ℕ → List ℕ → Option ℕ
isd_of least text = within least 0xffff (number_of text)

-- an AS number below 2 ^ 32, in decimal digits
abbrev pub small_part_of : ℕ → List ℕ → Option ℕ
small_part_of least text = within least 0xffff_ffff (number_of text)

-- a group: one to four hexadecimal digits without leading zeros, so at most 65,535
abbrev pub group_of : ℕ → List ℕ → Option ℕ
group_of least text = within least 0xffff (numeral_of 16 text)

-- the second and the third group
unfoldable pub low_groups_of : List ℕ → Option ℕ
low_groups_of text = joined colon (2 ^ 16) (group_of 0) (group_of 0) text

-- an AS number from 2 ^ 32 on: three groups, of which the first isn't 0
unfoldable pub groups_of : List ℕ → Option ℕ
groups_of text = joined colon (2 ^ 32) (group_of 1) low_groups_of text

-- an AS number in either form
unfoldable pub as_part_of : ℕ → List ℕ → Option ℕ
as_part_of least text = option_or (small_part_of least text) (groups_of text)

-- The AS that the text names, where its isolation domain and its number there may be `least` and more: with 0 each number
-- of 64 bits has a text.
unfoldable pub as_from : ℕ → List ℕ → Option ℕ
as_from least text = joined dash (2 ^ 48) (isd_of least) (as_part_of least) text

-- the AS that a text of a script or a topology names
abbrev pub as_of : List ℕ → Option ℕ
as_of text = as_from 1 text

-- the host that the text names
unfoldable pub host_from : ℕ → List ℕ → Option HostId
host_from least text =
    option_map (λ p. record { asn = record { 0 = p.0 }; host = p.1 })
    (parted comma (as_from least) (number_within 0xffff_ffff) text)

abbrev pub host_of : List ℕ → Option HostId
host_of text = host_from 1 text
