-- Set_Attribute_List sets attributes of one object, one after another (Volume 1, common services).
use Rattle.std.specs.Prelude.{ℕ, zero, suc, Bool, true, ◌&&◌, nat_le, List, [], ◌∷◌, ◌++◌, take, drop, length, Some}
use Rattle.std.specs.Prelude.{Result, Ok, Err, is_ok}
use Rattle.std.specs.Option.{ok_or}
use Rattle.cip_application.specs.Values.{size_for}
use Rattle.byteorder.specs.Endian.{little_number}
use Rattle.cip_message.specs.declared.path.Path.{Path}
use Rattle.cip_bytes.specs.Numbers.{le}
use Rattle.cip_bytes.specs.Protocol.{general_status_number}
use Rattle.cip_bytes.specs.Reading.{◌>>=◌, ◌>>◌}
use Rattle.cip_objects.specs.declared.object_ref.ObjectRef.{ObjectRef}
use Rattle.cip_objects.specs.declared.set_list.ListedSetting.{ListedSetting}
use Rattle.cip_objects.specs.declared.status.Completion.{Completion}
use Rattle.cip_objects.specs.declared.status.Completion.TheVariants.{Whole}
use Rattle.cip_objects.specs.declared.status.Refusal.{Refusal}
use Rattle.cip_objects.specs.declared.status.Refusal.TheVariants.{AttributeNotSupported, NotEnoughData, TooMuchData}
use Rattle.cip_objects.specs.ChangeServices.{Change, set_attribute_single}
use Rattle.cip_objects.specs.Check.{demand}
use Rattle.cip_objects.specs.Contents.{Contents}
use Rattle.cip_objects.specs.ObjectRef.{class_at, instance_at}
use Rattle.cip_objects.specs.ReadServices.{list_completion}
use Rattle.cip_objects.specs.Status.{completion_status, refusal_status}
use Rattle.cip_objects.specs.Tables.{Shapes, value_kind}

-- An attribute of a list, and the value that it is to have.
pub record Setting : Type 0 where
  pub attribute : ℕ
  pub value : List ℕ

-- The first of a list, and the bytes behind it.
pub record FirstSetting : Type 0 where
  pub setting : Setting
  pub rest : List ℕ

-- Those of the code.
abbrev pub setting_seen : ListedSetting → Setting
setting_seen l = record { attribute = l.attribute; value = l.value.now }

abbrev pub first_seen : ListedSetting → FirstSetting
first_seen l = record { setting = setting_seen l; rest = l.rest.now }

abbrev pub first_of : ℕ → ℕ → List ℕ → FirstSetting
first_of attribute size bytes =
    record { setting = record { attribute = attribute; value = take size bytes }; rest = drop size bytes }

-- The number of an attribute, then its value. The size of the value is that of the attribute's kind, so the object must
-- have the attribute.
unfoldable pub first_setting : Shapes → ℕ → ℕ → List ℕ → Result FirstSetting Refusal
first_setting shapes class instance bytes = do
  demand (nat_le 2 (length bytes)) NotEnoughData
  kind ← ok_or (value_kind shapes class instance (little_number 2 bytes)) AttributeNotSupported
  demand (nat_le (size_for kind (drop 2 bytes)) (length (drop 2 bytes))) NotEnoughData
  Ok (first_of (little_number 2 bytes) (size_for kind (drop 2 bytes)) (drop 2 bytes))

-- This many of them, and no byte behind the last.
abbrev pub settings_of : Shapes → ℕ → ℕ → ℕ → List ℕ → Result (List Setting) Refusal
settings_of shapes class instance zero bytes = do
  demand (nat_le (length bytes) 0) TooMuchData
  Ok []
settings_of shapes class instance (suc count) bytes = do
  first ← first_setting shapes class instance bytes
  settings ← settings_of shapes class instance count first.rest
  Ok (first.setting ∷ settings)

-- The same, of the object that a path leads to.
abbrev pub listed : Shapes → ObjectRef → ℕ → List ℕ → Result (List Setting) Refusal
listed shapes object count bytes = settings_of shapes (class_at shapes object) (instance_at shapes object) count bytes

-- Whether a list can be read to its end, or why not.
abbrev pub read_to_end : Result (List Setting) Refusal → Result (Unit {0}) Refusal
read_to_end (Ok settings) = Ok tt
read_to_end (Err s) = Err s

abbrev pub settings_or_none : Result (List Setting) Refusal → List Setting
settings_or_none (Ok settings) = settings
settings_or_none (Err s) = []

-- The contents after the sets of a list, the entries of the reply, and whether all were executed.
pub record AllSet : Type 0 where
  pub after : Contents
  pub entries : List ℕ
  pub complete : Bool

-- One is set as by a Set_Attribute_Single.
abbrev pub set_one : Contents → Path → Setting → Result Change Refusal
set_one m path s = set_attribute_single m (record path { attribute = Some s.attribute }) s.value

-- A refused set changes nothing.
abbrev pub contents_after : Contents → Result Change Refusal → Contents
contents_after m (Ok c) = c.after
contents_after m (Err s) = m

abbrev pub set_status : Result Change Refusal → ℕ
set_status (Ok c) = general_status_number (completion_status Whole)
set_status (Err s) = general_status_number (refusal_status s)

-- All are set, in their order: a refused one does not stop the rest. The entry of each is its number and its status.
abbrev pub set_all : Contents → Path → List Setting → AllSet
set_all m path [] = record { after = m; entries = []; complete = true }
set_all m path (s ∷ settings) =
    let now = set_one m path s in
    let later = set_all (contents_after m now) path settings in
    record {
      after = later.after;
      entries = (le 2 s.attribute ++ le 2 (set_status now)) ++ later.entries;
      complete = is_ok now && later.complete;
    }

-- The contents after a list was set, how completely it was, and the data of the reply.
pub record ListOutcome : Type 0 where
  pub after : Contents
  pub status : Completion
  pub content : List ℕ

-- Set_Attribute_List: the data are a count, then that many attributes with their values. All are read before the first is
-- set. The reply has the count and an entry for each attribute.
unfoldable pub set_attribute_list : Contents → Path → List ℕ → Result ListOutcome Refusal
set_attribute_list m path content = do
  demand (nat_le 2 (length content)) NotEnoughData
  settings ← settings_of m.shapes path.class path.instance (little_number 2 content) (drop 2 content)
  Ok (record {
    after = (set_all m path settings).after;
    status = list_completion (set_all m path settings).complete;
    content = le 2 (little_number 2 content) ++ (set_all m path settings).entries;
  })
