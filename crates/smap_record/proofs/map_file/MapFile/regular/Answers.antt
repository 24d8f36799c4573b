use Rattle.smap_record.proofs.map_file.MapFile.regular.Goals as goal

pub index_of-requires-clause-sound : goal.index_of-requires-clause-sound
index_of-requires-clause-sound c =
    c.one_text_is_its_mappings.ensures.sound _ _ _ c.checked-text.ensures.within
