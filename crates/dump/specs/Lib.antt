pub mod RecordLines
pub mod StoreLines
