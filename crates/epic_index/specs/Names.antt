-- Names of hops as parts of keys.
use Rattle.std.specs.Prelude.{Bool, ◌&&◌, ◌==◌, bytes_eq}
use Rattle.epic_num.specs.declared.hop.HopName.{HopName}
use Rattle.epic_index.specs.declared.names.NameKey.{NameKey}

abbrev pub name_eq : NameKey → NameKey → Bool
name_eq k l =
    k.ts_path == l.ts_path
    && (k.asn == l.asn
    && (k.generation == l.generation
    && (k.pos == l.pos && (k.exp == l.exp && (k.inn == l.inn && (k.out == l.out && bytes_eq k.link l.link))))))

unfoldable pub name_key : HopName → NameKey
name_key x = record {
  asn = x.asn.0;
  generation = x.generation;
  pos = x.body.pos;
  exp = x.body.exp;
  ts_path = x.body.ts_path;
  inn = x.body.inn;
  out = x.body.out;
  link = x.body.link;
}
