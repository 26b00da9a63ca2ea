-- What a parse without a fault leaves of a subcommand's arguments, and which value that is.
use Rattle.std.specs.Prelude.{◌≡◌, ◌⊎◌, ◌&&◌, ◌||◌, ◌==◌, ℕ, ◌^◌, ◌<◌, Bool, true, false, nat_lt, if◌then◌else◌, List, [], ◌∷◌, ◌++◌, length, map, Option, Some, None, codes, unwrap_or, IsTrue}
use Rattle.std.specs.Borrow.{Bor}
use Rattle.std.specs.List.{list_all, list_any}
use Rattle.std.specs.Net.Addr.{IsLoopbackV4, IsLoopbackV6, MatchIp}
use Rattle.std.specs.Net.Grammar.{IsSocketText}
use Rattle.std.specs.Net.Socket.{socket_ip}
use Rattle.std.specs.declared.net.socket_addr.SocketAddr.{SocketAddr}
use Rattle.std.specs.Str.{bytes_eq}
use Rattle.std.specs.Str.Parse.{IsNumeral, digits_value, without_leading_plus}
use Rattle.clap.specs.Words.{Row, Text, all_of, first_of, one_of}
use Rattle.clap.specs.declared.builder.value_parser.ValueParser.{ValueParser}
use Rattle.clap.specs.declared.builder.value_parser.ValueParser.TheVariants as parser
use Rattle.tp_mirror.specs.declared.first_use.Take.{Take}
use Rattle.tp_mirror.specs.declared.first_use.Take.TheVariants.{Text as TakeText, Journal as TakeJournal}
use Rattle.tp_opid.specs.HexText.{IsHexOf}
use Rattle.tp_opid.specs.declared.hash.Hash.{Hash}
use Rattle.tp_command_line.specs.Rules.{few, numbers, pausing, waiting}
use Rattle.tp_command_line.specs.declared.address.Address.{Address}
use Rattle.tp_command_line.specs.declared.address.Address.TheVariants.{Host, Socket}
use Rattle.tp_command_line.specs.declared.job.Hosting.{Hosting}

-- an argument has a first value among what was found
abbrev pub HasValue : Text → List Row → Type 0
HasValue id rows = (value : Text) × (first_of id rows ≡ Some value)

-- the text is the number n, in decimal digits after at most one plus
pub record IsNumber (text : Text) (n : ℕ) : Type 0 where
  pub digits : IsNumeral 10 (without_leading_plus text)
  pub small : n < 2 ^ 64
  pub value : n ≡ digits_value 10 (without_leading_plus text)

-- the first value of an argument is the number n
abbrev pub HasNumber : Text → List Row → ℕ → Type 0
HasNumber id rows n = (text : Text) × (one_of id rows ≡ Some text) × IsNumber text n

-- the first value of an argument is the number, or it has none
abbrev pub IsNumberIn : Option Text → Option ℕ → Type 0
IsNumberIn None None = Unit {0}
IsNumberIn None (Some n) = ⊥
IsNumberIn (Some text) None = ⊥
IsNumberIn (Some text) (Some n) = IsNumber text n

abbrev pub MayHaveNumber : Text → List Row → Option ℕ → Type 0
MayHaveNumber id rows number = IsNumberIn (one_of id rows) number

-- what a flag has as its value
abbrev pub flag_text : Bool → Text
flag_text true = codes "true"
flag_text false = codes "false"

-- the flag was given, or not
abbrev pub HasFlag : Text → List Row → Bool → Type 0
HasFlag id rows given = one_of id rows ≡ Some (flag_text given)

-- ---- hashes, keys and addresses

-- the texts are the hexadecimal digits of the hashes, one for one
abbrev pub AreHexOf : List Text → List Hash → Type 0
AreHexOf [] [] = Unit {0}
AreHexOf [] (h ∷ hs) = ⊥
AreHexOf (t ∷ ts) [] = ⊥
AreHexOf (t ∷ ts) (h ∷ hs) = IsHexOf t h.0 × AreHexOf ts hs

-- the text isn't the hexadecimal digits of 32 bytes
abbrev pub IsNoHash : Text → Type 0
IsNoHash text = (bytes : List ℕ) → length bytes ≡ 32 → IsHexOf text bytes → ⊥

-- the key is the bytes whose hexadecimal digits are given, where any are
abbrev pub IsKeyOf : Option Text → Option (List ℕ) → Type 0
IsKeyOf None None = Unit {0}
IsKeyOf None (Some key) = ⊥
IsKeyOf (Some text) None = ⊥
IsKeyOf (Some text) (Some key) = IsHexOf text key

-- a digit
abbrev pub is_digit : ℕ → Bool
is_digit b = nat_lt 47 b && nat_lt b 58

-- a letter of ASCII
abbrev pub is_letter : ℕ → Bool
is_letter b = (nat_lt 64 b && nat_lt b 91) || (nat_lt 96 b && nat_lt b 123)

-- a letter, a hyphen or an underscore, which no address in digits has
abbrev pub is_of_name : ℕ → Bool
is_of_name b = is_letter b || (b == 45) || (b == 95)

-- one of these, a digit or a dot
abbrev pub is_of_host : ℕ → Bool
is_of_host b = is_of_name b || is_digit b || (b == 46)

-- what a host's name can be: not of digits and dots alone
abbrev pub is_host_name : Text → Bool
is_host_name name = list_all is_of_host name && list_any is_of_name name

-- the text is the port, in decimal digits after at most one plus
pub record IsPort (text : Text) (port : ℕ) : Type 0 where
  pub digits : IsNumeral 10 (without_leading_plus text)
  pub small : port < 2 ^ 16
  pub value : port ≡ digits_value 10 (without_leading_plus text)

-- the text is the name and the port, with a colon between
pub record IsHostText (text name : Text) (port : ℕ) : Type 0 where
  pub named : IsTrue (is_host_name name)
  pub port_text : Text
  pub spelled : text ≡ name ++ codes ":" ++ port_text
  pub port_is : IsPort port_text port

-- the text is the address
abbrev pub IsAddressText : Text → Address → Type 0
IsAddressText text (Socket addr) = IsSocketText text addr
IsAddressText text (Host name port) = IsHostText text name.now port

-- the text isn't an address
abbrev pub IsNoAddress : Text → Type 0
IsNoAddress text = (addr : Address) → IsAddressText text addr → ⊥

-- the hashes that an argument was given
abbrev pub given_hashes : Text → List Row → List Text
given_hashes id rows = unwrap_or (all_of id rows) []

-- all hashes that were given
abbrev pub all_hashes : List Row → List Text
all_hashes rows = given_hashes (codes "HASH") rows ++ (given_hashes (codes "to") rows ++ given_hashes (codes "since") rows)

-- the texts are those that an argument was given
abbrev pub HasTexts : Text → List Row → List (Bor Text) → Type 0
HasTexts id rows texts = map (λ t. t.now) texts ≡ unwrap_or (all_of id rows) []

abbrev pub HasHashes : Text → List Row → List Hash → Type 0
HasHashes id rows hashes = AreHexOf (given_hashes id rows) hashes

abbrev pub HasHeads : List Row → List Hash → Type 0
HasHeads rows heads = HasHashes (codes "HASH") rows heads

-- the argument's values are hashes
abbrev pub is_of_hashes : Text → Bool
is_of_hashes id = bytes_eq (codes "HASH") id || (bytes_eq (codes "to") id || bytes_eq (codes "since") id)

-- the key is what `--key` was given, if it was
abbrev pub HasKey : List Row → Option (List ℕ) → Type 0
HasKey rows key = IsKeyOf (first_of (codes "key") rows) key

-- the address is the one that was given
abbrev pub HasAddress : List Row → Address → Type 0
HasAddress rows addr = (text : Text) × (first_of (codes "ADDR") rows ≡ Some text) × IsAddressText text addr

-- the address is what an option was given, if it was
abbrev pub IsAddressIn : Option Text → Option Address → Type 0
IsAddressIn None None = Unit {0}
IsAddressIn None (Some addr) = ⊥
IsAddressIn (Some text) None = ⊥
IsAddressIn (Some text) (Some addr) = IsAddressText text addr

abbrev pub MayHaveAddress : Text → List Row → Option Address → Type 0
MayHaveAddress id rows addr = IsAddressIn (first_of id rows) addr

-- the argument's value is an address
abbrev pub is_of_address : Text → Bool
is_of_address id = list_any (λ n. bytes_eq n id) (codes "ADDR" ∷ codes "serve" ∷ codes "server" ∷ [])

-- the address is one of this machine alone
abbrev pub IsOfThisMachine : SocketAddr → Type 0
IsOfThisMachine addr = MatchIp (socket_ip addr) IsLoopbackV4 IsLoopbackV6

-- the page's address is the one that was given, and of this machine alone
abbrev pub HasPage : List Row → SocketAddr → Type 0
HasPage rows addr = (text : Text) × (first_of (codes "PAGE") rows ≡ Some text) × IsSocketText text addr × IsOfThisMachine addr

-- which text counts at the first use of a mirror, where that is said
abbrev pub IsTakeIn : Option Text → Option Take → Type 0
IsTakeIn None None = Unit {0}
IsTakeIn None (Some take) = ⊥
IsTakeIn (Some text) None = ⊥
IsTakeIn (Some text) (Some TakeText) = text ≡ codes "text"
IsTakeIn (Some text) (Some TakeJournal) = text ≡ codes "journal"

abbrev pub HasTake : List Row → Option Take → Type 0
HasTake rows take = IsTakeIn (first_of (codes "take") rows) take

-- where the page is, where sessions are served beside it, and which server is followed, are what was given
pub record HasHosting (rows : List Row) (hosting : Hosting) : Type 0 where
  pub page : HasPage rows hosting.page
  pub serve : MayHaveAddress (codes "serve") rows hosting.serve
  pub follow : MayHaveAddress (codes "server") rows hosting.follow

-- the text isn't an address, or one of others
abbrev pub IsNoPage : Text → Type 0
IsNoPage text = ((addr : SocketAddr) → IsSocketText text addr → ⊥) ⊎ ((addr : SocketAddr) × IsSocketText text addr × (IsOfThisMachine addr → ⊥))

-- ---- parsers

-- the arguments whose values are numbers
abbrev pub is_numeric : Text → Bool
is_numeric id = list_any (λ n. bytes_eq n id) (codes "AT" ∷ codes "at" ∷ codes "del" ∷ codes "time" ∷ codes "sessions" ∷ codes "most" ∷ codes "unified" ∷ [])

-- the arguments that are flags
abbrev pub is_flag : Text → Bool
is_flag id = list_any (λ n. bytes_eq n id) (codes "client" ∷ codes "verbose" ∷ codes "raw" ∷ codes "pretty" ∷ codes "texts" ∷ codes "words" ∷ [])

-- what reads the values of an argument
abbrev pub parser_named : Text → ValueParser
parser_named id = if is_numeric id then numbers else if bytes_eq (codes "workers") id then few
    else if bytes_eq (codes "patience") id then waiting else if bytes_eq (codes "wait") id then waiting else if bytes_eq (codes "follow") id then pausing
    else if bytes_eq (codes "every") id then pausing
    else if is_flag id then parser.Bool else parser.String

-- the argument has a number as its value
abbrev pub is_number : Text → Bool
is_number id = is_numeric id || bytes_eq (codes "workers") id || bytes_eq (codes "patience") id || bytes_eq (codes "follow") id || bytes_eq (codes "wait") id || bytes_eq (codes "every") id
