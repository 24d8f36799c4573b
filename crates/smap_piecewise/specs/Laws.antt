pub mod TableUrls
