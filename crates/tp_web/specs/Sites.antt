-- Which requests a site answers, and what each is for.
use Rattle.std.specs.Prelude.{◌≡◌, ◌⊎◌, ℕ, ◌≤◌, Bool, ◌&&◌, ◌||◌, not, List, [], ◌∷◌, ◌++◌, length, map, bytes_eq, codes, nat_eq, if◌then◌else◌}
use Rattle.std.specs.List.{list_all, list_any, starts_with}
use Rattle.std.specs.Net.Text.{socket_text}
use Rattle.std.specs.Str.{str_eq_ignore_ascii_case}
use Rattle.std.specs.String.{string_bytes}
use Rattle.std.specs.declared.net.socket_addr.SocketAddr.{SocketAddr}
use Rattle.httparse.specs.Grammar.{ReadsRequest, RequestHead}
use Rattle.httparse.specs.Spans.{name_and_value}
use Rattle.tp_opid.specs.HexText.{IsHexOf}
use Rattle.tp_opid.specs.declared.actor.Actor.{Actor}
use Rattle.tp_web.specs.declared.site.Part.TheVariants.{Page, Script, Style}
use Rattle.tp_web.specs.declared.site.Site.{Site}
use Rattle.tp_web.specs.declared.site.Wanted.{Wanted}
use Rattle.tp_web.specs.declared.site.Wanted.TheVariants.{Foreign, Nothing, Part, Window}

-- the host under which the page at an address is asked for
abbrev pub hosts_at : SocketAddr → List (List ℕ)
hosts_at addr = socket_text addr ∷ []

-- the origin of the page at an address
abbrev pub origins_at : SocketAddr → List (List ℕ)
origins_at addr = (codes "http://" ++ socket_text addr) ∷ []

-- the hosts of a site
abbrev pub site_hosts : Site → List (List ℕ)
site_hosts site = map string_bytes site.hosts.items

-- the origins of a site
abbrev pub site_origins : Site → List (List ℕ)
site_origins site = map string_bytes site.origins.items

-- a field of a request's head: its name and its value
abbrev pub NamedValue : Type 0
NamedValue = List ℕ × List ℕ

-- whether the text is one of the texts
abbrev pub is_text_among : List (List ℕ) → List ℕ → Bool
is_text_among texts text = list_any (λ t. bytes_eq t text) texts

-- whether the field has the name, in letters of either case
abbrev pub is_field_named : List ℕ → NamedValue → Bool
is_field_named name field = str_eq_ignore_ascii_case field.0 name

-- whether some field has the name
abbrev pub has_field : List ℕ → List NamedValue → Bool
has_field name fields = list_any (is_field_named name) fields

-- whether each field with the name has one of the texts as its value
abbrev pub fields_are_among : List ℕ → List (List ℕ) → List NamedValue → Bool
fields_are_among name texts fields = list_all (λ field. not (is_field_named name field) || is_text_among texts field.1) fields

-- whether a request is for the site, and from nowhere else: a host is named, each is the site's, and so is each origin
abbrev pub is_own : Site → List NamedValue → Bool
is_own site fields =
    has_field (codes "Host") fields
    && fields_are_among (codes "Host") (site_hosts site) fields
    && fields_are_among (codes "Origin") (site_origins site) fields

-- whether windows are at the path; after it may be the digits of an actor
abbrev pub is_window_path : List ℕ → Bool
is_window_path path = bytes_eq path (codes "/socket") || starts_with nat_eq path (codes "/socket/")

-- what is at a path; a window only where the request says from which page it comes
abbrev pub found_at : List ℕ → Bool → Wanted
found_at path has_origin =
    if bytes_eq path (codes "/") then Part Page
    else if bytes_eq path (codes "/page.css") then Part Style
    else if bytes_eq path (codes "/page.js") then Part Script
    else if is_window_path path then (if has_origin then Window else Foreign)
    else Nothing

-- what the request with this method, path and fields is for
abbrev pub wanted_of : Site → List ℕ → List ℕ → List NamedValue → Wanted
wanted_of site method path fields =
    if is_own site fields
    then (if bytes_eq method (codes "GET") then found_at path (has_field (codes "Origin") fields) else Nothing)
    else Foreign

-- the bytes begin with the head of a request, which has at most that many fields
abbrev pub BeginsWithHead : ℕ → List ℕ → Type 0
BeginsWithHead most bytes = (head : RequestHead) × (rest : List ℕ) × ReadsRequest bytes head rest × (length head.fields ≤ most)

-- what the request with this head is for
abbrev pub wanted_by_head : Site → RequestHead → Wanted
wanted_by_head site head = wanted_of site head.method head.target (map name_and_value head.fields)

-- the answer is what the head is for with which the bytes begin, or `Foreign`
abbrev pub IsWantedBy : Site → List ℕ → Wanted → Type 0
IsWantedBy site bytes wanted =
    (wanted ≡ Foreign)
    ⊎ ((head : RequestHead) × (rest : List ℕ) × ReadsRequest bytes head rest × (wanted ≡ wanted_by_head site head))

-- the bytes begin with a head whose target is a window's, with the digits of the actor after it
abbrev pub NamesActor : List ℕ → Actor → Type 0
NamesActor bytes actor =
    (head : RequestHead) × (rest : List ℕ) × (digits : List ℕ) × ReadsRequest bytes head rest
    × (head.target ≡ codes "/socket/" ++ digits) × IsHexOf digits actor.0
